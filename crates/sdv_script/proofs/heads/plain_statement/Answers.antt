use Rattle.std.proofs.Common.{rules}
use Rattle.sdv_script.proofs.heads.plain_statement.Goals as goal

pub returns-in_ok-width-in-BusLines : goal.returns-in_ok-width-in-BusLines
returns-in_ok-width-in-BusLines c = search rules
