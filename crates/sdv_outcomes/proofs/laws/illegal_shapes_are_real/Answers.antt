use Rattle.sdv_outcomes.proofs.StartRuns as proof
use Rattle.sdv_outcomes.proofs.laws.illegal_shapes_are_real.Goals as goal

pub returns : goal.returns
returns c = proof.illegal_shapes_are_real
