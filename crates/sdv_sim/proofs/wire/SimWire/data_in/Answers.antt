use Rattle.std.proofs.Common.{rules}
use Rattle.sdv_sim.proofs.wire.SimWire.data_in.Goals as goal

pub returns : goal.returns
returns g c = search rules
