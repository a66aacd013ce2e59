use Rattle.sdv_outcomes.proofs.GreatestCards as proof
use Rattle.sdv_outcomes.proofs.laws.each_start_has_card.Goals as goal

pub returns : goal.returns
returns c = proof.each_start_has_card
