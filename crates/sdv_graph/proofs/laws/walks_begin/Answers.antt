use Rattle.sdv_graph.proofs.Begun as proof
use Rattle.sdv_graph.proofs.laws.walks_begin.Goals as goal

pub returns : goal.returns
returns c = proof.walks_begin
