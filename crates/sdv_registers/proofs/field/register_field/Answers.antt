use Rattle.std.proofs.Common.{◌≡◌, ◌∙◌, sym, refl, ◌/◌, ◌%◌, ◌^◌, ◌-◌, ◌+◌}
use Rattle.byteorder.specs.Endian.{big_from}
use Rattle.sdv_registers.proofs.ByteLaws.{field-bytes}
use Rattle.sdv_registers.proofs.field.register_field.Goals as goal

pub returns-clause-value : goal.returns-clause-value
returns-clause-value c =
    let cut : c.cut.result ≡ big_from 0 15 c.args.register.now / 2 ^ (c.args.low - 8) % 2 ^ (c.args.high + 1 - c.args.low) =
    rw (← c.read_uint128-number.ensures) c.cut.ensures in
    cut ∙ sym (field-bytes 127 c.args.high c.args.low 8 15 c.args.register.now c.fits-register c.told-register refl c.requires.above c.requires.order
    c.requires.within)
