use Rattle.sdv_commands.proofs.LimitLaws.{none_is_stopped}
use Rattle.sdv_commands.proofs.laws.the_limit_stops_no_run_beside_a_card.Goals as goal

pub returns : goal.returns
returns g c = λ card keeps. none_is_stopped g.P.CardPort.steps card keeps
