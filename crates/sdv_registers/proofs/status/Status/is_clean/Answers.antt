use Rattle.std.proofs.Common.{rules}
use Rattle.sdv_registers.proofs.status.Status.is_clean.Goals as goal

pub returns : goal.returns
returns c = search rules
