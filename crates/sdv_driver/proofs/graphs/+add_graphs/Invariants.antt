use Rattle.std.proofs.Common.{length}
use Rattle.sdv_driver.proofs.graphs.+add_graphs.Given as goal

abbrev pub decreases-add_graphs : goal.decreases-add_graphs
decreases-add_graphs l = length l.entries.now
