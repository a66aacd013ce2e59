use Rattle.std.proofs.Common.{rules}
use Rattle.sdv_check.proofs.edges.target_holds.Goals as goal

pub returns-in-Number : goal.returns-in-Number
returns-in-Number c = search rules
