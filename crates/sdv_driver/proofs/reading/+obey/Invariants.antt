use Rattle.std.proofs.Common.{length}
use Rattle.sdv_driver.proofs.reading.+obey.Given as goal

abbrev pub decreases-obey : goal.decreases-obey
decreases-obey l = length l.entries.now
