use Rattle.sdv_card.proofs.Steps.{stop_is_not_legal}
use Rattle.sdv_card.proofs.examples.stop_is_not_legal.Goals as goal

pub returns : goal.returns
returns c = stop_is_not_legal
