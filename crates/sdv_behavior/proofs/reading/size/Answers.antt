use Rattle.std.proofs.Common.{rules}
use Rattle.sdv_behavior.proofs.reading.size.Goals as goal

pub returns : goal.returns
unfolding Rattle.sdv_behavior.specs.Reading.read_size
returns c = search rules
