use Rattle.std.proofs.Common.{None, ◌∙◌, subst, length}
use Rattle.std.specs.Io.KnownBytes.{Appends}
use Rattle.sdv_card.specs.Port.{DataInRegister}
use Rattle.sdv_card.specs.ScriptEvent.{RegisterIn}
use Rattle.sdv_lines.proofs.AskLaws.{then_heard}
use Rattle.sdv_lines.proofs.ask.data_in_register.Goals as goal

pub returns : goal.returns
returns g c =
    then_heard None (DataInRegister c.args.lines (length c.args.bytes.now)) (λ end. RegisterIn end c.hear_register.new.bytes) _ _ _ _ c.hear_register.result
    (subst (λ l. Appends (g.W.Write.contents c.args.writer.now) (g.W.Write.contents c.send.new.writer) l)
    (c.as_slice.ensures.value ∙ c.phase_request.ensures) c.in_ok-send.ensures)
    (c.hear_register.ensures c.args.lines)
