use Rattle.std.proofs.Common.{length}
use Rattle.sdv_check.proofs.turns.+excess_fits.Given as goal

abbrev pub decreases-excess_fits : goal.decreases-excess_fits
decreases-excess_fits l = length l.most.now
