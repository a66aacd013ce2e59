use Rattle.sdv_card.proofs.DamageLaws.{handed_on, keeps_over_noise, tells_nothing}
use Rattle.sdv_card.proofs.damage.damaged_is_lost.Goals as goal

pub returns-clause-handed_on : goal.returns-clause-handed_on
returns-clause-handed_on g c = λ card keeps. handed_on g.P.CardPort.steps card keeps

pub returns-clause-weaker : goal.returns-clause-weaker
returns-clause-weaker g c = λ card keeps. keeps_over_noise g.P.CardPort.steps card keeps

pub returns-clause-tells_nothing : goal.returns-clause-tells_nothing
returns-clause-tells_nothing g c = λ fault. tells_nothing fault
