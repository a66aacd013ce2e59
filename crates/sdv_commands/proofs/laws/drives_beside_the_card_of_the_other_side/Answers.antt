use Rattle.sdv_commands.proofs.BesideLaws.{drives_beside}
use Rattle.sdv_commands.proofs.laws.drives_beside_the_card_of_the_other_side.Goals as goal

pub returns : goal.returns
returns g c = λ card keeps. drives_beside g.P.CardPort.steps card keeps
