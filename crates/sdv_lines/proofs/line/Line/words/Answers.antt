use Rattle.std.proofs.Common.{◌∙◌, ap}
use Rattle.std.proofs.lemmas.Str.Ascii.{trim_ascii_end_is}
use Rattle.sdv_lines.specs.Texts.{trimmed}
use Rattle.sdv_lines.proofs.line.Line.words.Goals as goal

pub returns : goal.returns
returns c =
    trim_ascii_end_is c.as_slice.result.now c.trim_ascii_end.result.now c.trim_ascii_end.ensures.value ∙ ap trimmed c.as_slice.ensures.value
