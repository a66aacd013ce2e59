use Rattle.std.proofs.Common.{rules}
use Rattle.sdv_check.proofs.text.points.numbers.Goals as goal

pub returns : goal.returns
unfolding Rattle.sdv_check.specs.Reading.read_numbers
returns c = search rules
