use Rattle.std.proofs.Common.{length}
use Rattle.sdv_check.proofs.edges.+cases_hold.Given as goal

abbrev pub decreases-cases_hold : goal.decreases-cases_hold
decreases-cases_hold l = length l.cases.now
