use Rattle.sdv_player.proofs.Played.{plays_are_walks}
use Rattle.sdv_player.proofs.laws.plays_are_walks.Goals as goal

pub returns : goal.returns
returns c = plays_are_walks
