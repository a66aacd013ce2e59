use Rattle.sdv_outcomes.proofs.GreatestCards as proof
use Rattle.sdv_outcomes.proofs.laws.none_has_more.Goals as goal

pub returns : goal.returns
returns c = proof.none_has_more
