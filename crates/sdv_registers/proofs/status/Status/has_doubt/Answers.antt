use Rattle.std.proofs.Common.{rules}
use Rattle.sdv_registers.proofs.status.Status.has_doubt.Goals as goal

pub returns : goal.returns
returns c = search rules
