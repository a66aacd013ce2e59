use Rattle.std.proofs.Common.{rules}
use Rattle.sdv_graph.proofs.graph.Graph.kind.Goals as goal

pub returns : goal.returns
returns c = search rules
