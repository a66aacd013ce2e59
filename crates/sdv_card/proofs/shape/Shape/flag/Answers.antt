use Rattle.std.proofs.Common.{rules}
use Rattle.sdv_card.proofs.shape.Shape.flag.Goals as goal

pub returns-in-1 : goal.returns-in-1
unfolding Rattle.sdv_card.specs.Code.digits
returns-in-1 c = search rules
