use Rattle.sdv_card.proofs.ResetSteps as proof
use Rattle.sdv_card.proofs.resets.resets_start_cards.Goals as goal

pub returns : goal.returns
returns c = proof.resets_start_cards
