use Rattle.sdv_player.proofs.Alike.{plays_are_alike}
use Rattle.sdv_player.proofs.laws.plays_are_alike.Goals as goal

pub returns : goal.returns
returns c = plays_are_alike
