use Rattle.sdv_review.proofs.ConfirmedLaws.{confirmed_by_answer}
use Rattle.sdv_review.proofs.laws.confirmed_by_answer.Goals as goal

pub returns : goal.returns
returns c = confirmed_by_answer
