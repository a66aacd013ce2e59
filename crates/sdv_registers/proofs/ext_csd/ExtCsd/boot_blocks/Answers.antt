use Rattle.std.proofs.Common.{rules}
use Rattle.sdv_registers.proofs.ext_csd.ExtCsd.boot_blocks.Goals as goal

pub returns : goal.returns
returns c = search rules
