use Rattle.std.proofs.Common.{ap, ◌∙◌, sym, arith}
use Rattle.sdv_frames.specs.Bits.{bits}
use Rattle.sdv_frames.proofs.FrameLaws.{word_in}
use Rattle.sdv_frames.proofs.reply.word_of.Goals as goal

pub returns : goal.returns
returns c = ap (bits 32) c.from_be_bytes.ensures ∙ sym (word_in c.args.bytes.now c.requires (λ i. omega (arith, c.type_inv.bytes i)))
