use Rattle.sdv_commands.proofs.DigitLaws.{schedule_known}
use Rattle.sdv_commands.proofs.laws.digits_alone_are_values.Goals as goal

pub returns : goal.returns
returns c = schedule_known
