use Rattle.sdv_outcomes.proofs.ShapeCards as proof
use Rattle.sdv_outcomes.proofs.laws.each_illegal_shape_has_card.Goals as goal

pub returns : goal.returns
returns c = proof.each_illegal_shape_has_card
