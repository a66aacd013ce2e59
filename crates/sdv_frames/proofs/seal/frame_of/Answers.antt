use Rattle.std.proofs.Common.{◌∷◌, [], ◌++◌, ap, ◌∙◌}
use Rattle.sdv_frames.specs.Bits.{bits_of}
use Rattle.sdv_frames.proofs.ByteLaws.{bits_of-frame}
use Rattle.sdv_frames.proofs.seal.frame_of.Goals as goal

pub returns : goal.returns
returns c = ap (λ word. bits_of (c.args.first ∷ (word ++ c.args.last ∷ []))) c.write_u32.ensures ∙ bits_of-frame c.args.first c.args.word c.args.last
