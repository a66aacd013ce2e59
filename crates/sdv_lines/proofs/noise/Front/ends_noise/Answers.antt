use Rattle.std.proofs.Common.{◌≡◌, ◌∙◌, ap, not}
use Rattle.std.proofs.lemmas.Str.Ascii.{trim_ascii_end_is}
use Rattle.sdv_lines.specs.Noise.{is_answer}
use Rattle.sdv_lines.specs.Texts.{trimmed}
use Rattle.sdv_lines.proofs.noise.Front.ends_noise.Goals as goal

pub returns-then-byte-eq10 : goal.returns-then-byte-eq10
returns-then-byte-eq10 c =
    let text : c.trim_ascii_end.result.now ≡ trimmed c.args.self.now.held.items =
    trim_ascii_end_is c.as_slice.result.now c.trim_ascii_end.result.now c.trim_ascii_end.ensures.value ∙ ap trimmed c.as_slice.ensures.value in
    let is : c.is_answer.result ≡ is_answer (trimmed c.args.self.now.held.items) = c.is_answer.ensures ∙ ap is_answer text in
    rw (c.if-byte-eq10.true) (ap not is)
