use Rattle.std.proofs.Common.{rules}
use Rattle.sdv_sim.proofs.wire.SimWire.transfer.Goals as goal

pub returns-in-Ok : goal.returns-in-Ok
returns-in-Ok g c = search rules
