use Rattle.std.proofs.Common.{rules}
use Rattle.sdv_registers.proofs.status.Status.errors.Goals as goal

pub returns-in-Emmc : goal.returns-in-Emmc
returns-in-Emmc c = search rules
