use Rattle.std.proofs.Common.{ap, sym, ◌∙◌}
use Rattle.sdv_frames.specs.Bits.{bits_of}
use Rattle.sdv_registers.specs.Csd.{c_size}
use Rattle.sdv_registers.proofs.csd.Csd.c_size.Goals as goal

pub returns-in-Version1 : goal.returns-in-Version1
returns-in-Version1 c =
    let csd = bits_of c.args.self.now.register in
    c.register_field.ensures.value ∙ ap (λ l. c_size l csd) (sym c.in-Version1.is ∙ c.layout.ensures)
