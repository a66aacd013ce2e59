use Rattle.std.proofs.Common.{◌∙◌, subst}
use Rattle.std.specs.Io.KnownBytes.{Appends}
use Rattle.sdv_card.specs.Port.{Exchange}
use Rattle.sdv_card.specs.ScriptEvent.{Answered}
use Rattle.sdv_lines.proofs.AskLaws.{then_heard}
use Rattle.sdv_lines.proofs.ask.exchange.Goals as goal

pub returns : goal.returns
returns g c =
    then_heard c.args.due (Exchange c.args.command c.args.expect) (λ x. Answered x) _ _ _ _ c.hear_answer.result
    (subst (λ l. Appends (g.W.Write.contents c.args.writer.now) (g.W.Write.contents c.send.new.writer) l)
    (c.as_slice.ensures.value ∙ c.exchange_request.ensures) c.in_ok-send.ensures)
    (c.hear_answer.ensures c.args.command)
