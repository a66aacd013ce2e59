use Rattle.std.proofs.Common.{rules}
use Rattle.sdv_sim.proofs.sim.Sim.react.Goals as goal

pub returns-clause-blocks : goal.returns-clause-blocks
returns-clause-blocks g c = search rules
