use Rattle.sdv_explain.proofs.EdgeLaws.{edges_are_all}
use Rattle.sdv_explain.proofs.laws.edges_are_all.Goals as goal

pub returns : goal.returns
returns c = edges_are_all
