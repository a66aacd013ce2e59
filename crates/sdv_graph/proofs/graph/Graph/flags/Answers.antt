use Rattle.std.proofs.Common.{rules}
use Rattle.std.proofs.lemmas.List.{length-map}
use Rattle.sdv_graph.proofs.graph.Graph.flags.Goals as goal

pub returns : goal.returns
returns c = search (rules, length-map)
