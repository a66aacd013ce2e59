use Rattle.sdv_card.proofs.Steps.{doubt_stays}
use Rattle.sdv_card.proofs.examples.doubt_stays.Goals as goal

pub returns : goal.returns
returns c = doubt_stays
