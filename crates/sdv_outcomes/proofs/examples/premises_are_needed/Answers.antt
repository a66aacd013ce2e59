use Rattle.sdv_outcomes.proofs.NeededPremises as proof
use Rattle.sdv_outcomes.proofs.examples.premises_are_needed.Goals as goal

pub returns : goal.returns
returns c = proof.premises_are_needed
