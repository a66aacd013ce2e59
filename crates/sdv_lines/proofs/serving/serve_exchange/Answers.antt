use Rattle.std.proofs.Common.{◌∙◌, List, ℕ, subst}
use Rattle.sdv_card.specs.ScriptEvent.{Answered}
use Rattle.sdv_lines.specs.Streams.{Sends}
use Rattle.sdv_lines.proofs.serving.serve_exchange.Goals as goal

pub returns : goal.returns
returns g c = (
  Answered c.exchange-answer.result,
  c.exchange-answer.ensures,
  subst (λ (l : List ℕ). Sends (g.W.Write.contents c.args.writer.now) (g.W.Write.contents c.send.new.writer) c.send.result l)
      (c.as_slice.ensures.value ∙ c.answer_line.ensures) c.send.ensures,
)
