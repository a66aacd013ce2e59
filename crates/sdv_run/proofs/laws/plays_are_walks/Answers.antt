use Rattle.sdv_run.proofs.Machines.{plays_are_walks}
use Rattle.sdv_run.proofs.laws.plays_are_walks.Goals as goal

pub returns : goal.returns
returns c = plays_are_walks
