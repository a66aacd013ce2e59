use Rattle.sdv_player.proofs.Counted.{plays_are_counted}
use Rattle.sdv_player.proofs.laws.plays_are_counted.Goals as goal

pub returns : goal.returns
returns c = plays_are_counted
