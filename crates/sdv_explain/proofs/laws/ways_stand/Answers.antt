use Rattle.sdv_explain.proofs.StandLaws.{ways_stand}
use Rattle.sdv_explain.proofs.laws.ways_stand.Goals as goal

pub returns : goal.returns
returns c = ways_stand
