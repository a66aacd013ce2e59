use Rattle.std.proofs.Common.{rules}
use Rattle.sdv_card.proofs.shape.Shape.with_lines.Goals as goal

pub returns : goal.returns
returns c = search rules
