use Rattle.std.proofs.Common.{◌≡◌, ◌+◌, ◌*◌, ap, refl, sym, ◌∙◌, None}
use Rattle.sdv_frames.specs.Bits.{Bits, bits_of}
use Rattle.sdv_registers.specs.Csd.{blocks_of, c_size, c_size_mult_of, layout}
use Rattle.sdv_registers.specs.declared.csd.CsdLayout.{CsdLayout}
use Rattle.sdv_registers.specs.declared.csd.CsdLayout.TheVariants.{Version1, Version2}
use Rattle.sdv_registers.proofs.csd.Csd.blocks.Goals as goal

without_mult : (l : CsdLayout) (csd : Bits) → c_size_mult_of l csd ≡ None → (c_size l csd + 1) * 1024 ≡ blocks_of l csd
without_mult Version1 csd e = absurd (cc)
without_mult Version2 csd e = refl

pub returns-in-None : goal.returns-in-None
returns-in-None c =
    let csd = bits_of c.args.self.now.register in
    ap (λ size. (size + 1) * 1024) (c.from.ensures ∙ c.c_size-in-None.ensures) ∙ without_mult (layout c.args.self.now.kind csd) csd (sym c.c_size_mult.ensures.value ∙ c.in-None.is)
