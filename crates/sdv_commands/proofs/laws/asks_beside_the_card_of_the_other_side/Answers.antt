use Rattle.sdv_commands.proofs.AskedLaws.{asks_beside}
use Rattle.sdv_commands.proofs.laws.asks_beside_the_card_of_the_other_side.Goals as goal

pub returns : goal.returns
returns g c = λ card keeps. asks_beside g.P.CardPort.steps card keeps
