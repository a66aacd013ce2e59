use Rattle.std.proofs.Common.{rules}
use Rattle.sdv_check.proofs.edges.edges_hold.Goals as goal

pub returns-then-edge_holds : goal.returns-then-edge_holds
returns-then-edge_holds g c = search rules
