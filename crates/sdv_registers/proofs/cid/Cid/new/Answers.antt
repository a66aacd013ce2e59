use Rattle.std.proofs.Common.{rules}
use Rattle.sdv_registers.proofs.cid.Cid.new.Goals as goal

pub returns-in-Sd-clause-sd : goal.returns-in-Sd-clause-sd
returns-in-Sd-clause-sd c = search rules
