use Rattle.std.proofs.Common.{None, ◌∙◌, subst, length}
use Rattle.std.specs.Io.KnownBytes.{Appends}
use Rattle.sdv_card.specs.Port.{DataIn}
use Rattle.sdv_card.specs.ScriptEvent.{BlocksIn}
use Rattle.sdv_lines.proofs.AskLaws.{then_heard}
use Rattle.sdv_lines.proofs.ask.data_in.Goals as goal

pub returns : goal.returns
returns g c =
    then_heard None (DataIn c.args.lines (length c.args.blocks.now)) (λ end. BlocksIn end c.hear_blocks.new.blocks) _ _ _ _ c.hear_blocks.result
    (subst (λ l. Appends (g.W.Write.contents c.args.writer.now) (g.W.Write.contents c.send.new.writer) l)
    (c.as_slice.ensures.value ∙ c.phase_request.ensures) c.in_ok-send.ensures)
    (c.hear_blocks.ensures c.args.lines)
