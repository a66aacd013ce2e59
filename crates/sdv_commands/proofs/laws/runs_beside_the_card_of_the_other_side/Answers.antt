use Rattle.sdv_commands.proofs.BesideLaws.{runs_beside}
use Rattle.sdv_commands.proofs.laws.runs_beside_the_card_of_the_other_side.Goals as goal

pub returns : goal.returns
returns g c = λ card keeps. runs_beside g.P.CardPort.steps card keeps
