use Rattle.std.proofs.Common.{◌≡◌, ◌+◌, ◌-◌, ◌/◌, ◌%◌, ◌^◌, ◌∙◌, sym, refl, arith}
use Rattle.byteorder.specs.Endian.{big_from}
use Rattle.sdv_registers.proofs.ByteLaws.{field-bytes}
use Rattle.sdv_registers.proofs.scr.field_of.Goals as goal

pub returns-clause-value : goal.returns-clause-value
returns-clause-value c =
    let cut : c.cut.result ≡ big_from 0 8 c.args.register.now / 2 ^ c.args.low % 2 ^ (c.args.high + 1 - c.args.low) =
    rw (← c.read_u64-number.ensures) c.cut.ensures in
    let last : c.args.low - 0 ≡ c.args.low = omega arith in
    cut ∙ sym (rw last at (field-bytes 63 c.args.high c.args.low 0 8 c.args.register.now c.fits-register c.told-register refl
    (omega arith) c.requires.order c.requires.within))
