use Rattle.std.proofs.Common.{rules}
use Rattle.sdv_graph.proofs.graph.Graph.first.Goals as goal

pub returns-clause-first : goal.returns-clause-first
returns-clause-first c = search rules
