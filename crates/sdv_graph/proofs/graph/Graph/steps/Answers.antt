use Rattle.std.proofs.Common.{rules}
use Rattle.sdv_graph.proofs.graph.Graph.steps.Goals as goal

pub returns-clause-steps : goal.returns-clause-steps
returns-clause-steps c = search rules
