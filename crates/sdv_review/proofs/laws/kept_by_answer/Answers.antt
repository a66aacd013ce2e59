use Rattle.sdv_review.proofs.ConfirmedLaws.{kept_by_answer}
use Rattle.sdv_review.proofs.laws.kept_by_answer.Goals as goal

pub returns : goal.returns
returns c = kept_by_answer
