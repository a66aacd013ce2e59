use Rattle.sdv_card.proofs.Steps.{bring_up_happens}
use Rattle.sdv_card.proofs.examples.bring_up_happens.Goals as goal

pub returns : goal.returns
returns c = bring_up_happens
