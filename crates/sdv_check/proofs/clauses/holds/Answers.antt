use Rattle.std.proofs.Common.{rules}
use Rattle.sdv_check.proofs.clauses.holds.Goals as goal

pub returns : goal.returns
returns g c = search rules
