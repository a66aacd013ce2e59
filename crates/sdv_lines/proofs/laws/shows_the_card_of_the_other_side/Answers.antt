use Rattle.sdv_lines.proofs.PartnerLaws.{shows_other}
use Rattle.sdv_lines.proofs.laws.shows_the_card_of_the_other_side.Goals as goal

pub returns : goal.returns
returns g c = λ card keeps. shows_other g.P.CardPort.steps card keeps
