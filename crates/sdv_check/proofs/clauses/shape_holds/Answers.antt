use Rattle.std.proofs.Common.{rules}
use Rattle.sdv_check.proofs.clauses.shape_holds.Goals as goal

pub returns-in-EndState : goal.returns-in-EndState
returns-in-EndState g c = search rules
