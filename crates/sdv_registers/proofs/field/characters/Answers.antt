use Rattle.std.proofs.Common.{◌≡◌, ◌+◌, ◌-◌, arith}
use Rattle.sdv_registers.proofs.ByteLaws.{bits_of-part}
use Rattle.sdv_registers.proofs.field.characters.Goals as goal

pub returns : goal.returns
returns c =
    let count : c.args.place + c.args.count - c.args.place ≡ c.args.count = omega arith in
    rw count (bits_of-part c.args.place c.args.count c.args.register.now (omega arith))
