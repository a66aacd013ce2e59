use Rattle.sdv_explain.proofs.EdgeLaws.{edges_are_asked}
use Rattle.sdv_explain.proofs.laws.edges_are_asked.Goals as goal

pub returns : goal.returns
returns c = edges_are_asked
