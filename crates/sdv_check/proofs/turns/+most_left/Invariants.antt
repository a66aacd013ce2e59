use Rattle.std.proofs.Common.{length}
use Rattle.sdv_check.proofs.turns.+most_left.Given as goal

abbrev pub decreases-most_left : goal.decreases-most_left
decreases-most_left l = length l.most.now
