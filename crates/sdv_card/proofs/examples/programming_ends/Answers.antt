use Rattle.sdv_card.proofs.Steps.{programming_ends}
use Rattle.sdv_card.proofs.examples.programming_ends.Goals as goal

pub returns : goal.returns
returns c = programming_ends
