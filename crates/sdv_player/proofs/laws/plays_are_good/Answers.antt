use Rattle.sdv_player.proofs.PlayedBeside.{plays_are_good}
use Rattle.sdv_player.proofs.laws.plays_are_good.Goals as goal

pub returns : goal.returns
returns c = plays_are_good
