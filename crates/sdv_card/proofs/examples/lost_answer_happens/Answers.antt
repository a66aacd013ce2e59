use Rattle.sdv_card.proofs.Steps.{lost_answer_happens}
use Rattle.sdv_card.proofs.examples.lost_answer_happens.Goals as goal

pub returns : goal.returns
returns c = lost_answer_happens
