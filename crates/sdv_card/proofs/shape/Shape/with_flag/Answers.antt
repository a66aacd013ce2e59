use Rattle.std.proofs.Common.{rules}
use Rattle.sdv_card.proofs.shape.Shape.with_flag.Goals as goal

pub returns-in-true-false : goal.returns-in-true-false
returns-in-true-false c = search rules
