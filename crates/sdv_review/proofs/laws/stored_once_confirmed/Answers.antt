use Rattle.sdv_review.proofs.ConfirmedLaws.{stored_once_confirmed}
use Rattle.sdv_review.proofs.laws.stored_once_confirmed.Goals as goal

pub returns : goal.returns
returns c = stored_once_confirmed
