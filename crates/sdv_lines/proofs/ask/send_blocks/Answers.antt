use Rattle.std.proofs.Common.{◌++◌, ◌∙◌, ap, List, ℕ, length, subst, append_assoc}
use Rattle.sdv_trace.specs.Trace.{line_feed}
use Rattle.sdv_lines.specs.declared.words.TheConstants as words
use Rattle.sdv_lines.specs.Texts.{lines_of}
use Rattle.sdv_lines.specs.Requests.{phase_text, block_texts}
use Rattle.sdv_lines.specs.Streams.{Sends}
use Rattle.sdv_lines.proofs.ask.send_blocks.Goals as goal

pub returns : goal.returns
returns g c =
    let head = phase_text words.DATA_OUT.now (length c.args.blocks.now) c.args.lines in
    let rest = lines_of (block_texts c.args.blocks.now) in
    subst (λ (l : List ℕ). Sends (g.W.Write.contents c.args.writer.now) (g.W.Write.contents c.send_blocks_behind.new.writer) c.send_blocks_behind.result l)
    (ap (λ l. l ++ rest) (c.as_slice.ensures.value ∙ c.phase_request-line.ensures) ∙ append_assoc head line_feed rest) c.send_blocks_behind.ensures
