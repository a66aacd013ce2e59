use Rattle.std.proofs.Common.{length}
use Rattle.sdv_check.proofs.turns.+costs_left.Given as goal

abbrev pub decreases-costs_left : goal.decreases-costs_left
decreases-costs_left l = length l.costs.now
