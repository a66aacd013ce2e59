use Rattle.sdv_script.proofs.OneGraph.{one_graph_lem}
use Rattle.sdv_script.proofs.graphed.one_graph.Goals as goal

pub returns : goal.returns
returns c = one_graph_lem
