use Rattle.sdv_facts.proofs.Headline.{each_point}
use Rattle.sdv_facts.proofs.laws.each_point_steps_well.Goals as goal

pub returns : goal.returns
returns c = each_point
