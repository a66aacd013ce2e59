use Rattle.std.proofs.Common.{◌≡◌, arith, ap, ◌∙◌}
use Rattle.std.proofs.lemmas.Grind.{common_steps}
use Rattle.sdv_emit.specs.CText.{little_endian}
use Rattle.sdv_emit.specs.Reading.{words_of_bytes}
use Rattle.sdv_emit.proofs.Texts.{bytes_read}
use Rattle.sdv_emit.proofs.array.little_endian.Goals as goal

pub returns-clause-read : goal.returns-clause-read
returns-clause-read c =
    let bytes : c.loop-word.bytes.items ≡ little_endian c.args.words.now = grind (arith, common_steps) in
    ap words_of_bytes bytes ∙ bytes_read c.args.words.now (λ i. omega (arith, c.type_inv.words i))
