use Rattle.std.proofs.Common.{◌+◌, ◌-◌, ◌∙◌, arith}
use Rattle.sdv_registers.proofs.ByteLaws.{little_from-left, little_from-left-lt}
use Rattle.sdv_registers.proofs.ext_csd.bytes_of.Goals as goal

pub returns-clause-value : goal.returns-clause-value
returns-clause-value c =
    c.read_uint.ensures
    ∙ little_from-left c.args.low (c.args.high + 1 - c.args.low) (512 - c.args.low) c.args.register.now c.fits-register (omega arith) (omega arith)

pub returns-clause-width : goal.returns-clause-width
returns-clause-width c =
    rw c.read_uint.ensures
    (little_from-left-lt c.args.low (c.args.high + 1 - c.args.low) (512 - c.args.low) c.args.register.now c.fits-register (omega arith))
