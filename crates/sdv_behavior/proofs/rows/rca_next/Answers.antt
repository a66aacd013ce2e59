use Rattle.std.proofs.Common.{rules}
use Rattle.sdv_behavior.proofs.rows.rca_next.Goals as goal

pub returns-in-Cmd0 : goal.returns-in-Cmd0
returns-in-Cmd0 c = search rules
