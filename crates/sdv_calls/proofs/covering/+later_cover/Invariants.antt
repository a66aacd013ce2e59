use Rattle.std.proofs.Common.{length}
use Rattle.sdv_calls.proofs.covering.+later_cover.Given as goal

abbrev pub decreases-later_cover : goal.decreases-later_cover
decreases-later_cover l = length l.entries.now
