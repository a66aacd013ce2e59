use Rattle.std.proofs.Common.{rules}
use Rattle.sdv_check.proofs.text.points.is_above.Goals as goal

pub returns-in-Some : goal.returns-in-Some
returns-in-Some c = search rules
