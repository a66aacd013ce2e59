use Rattle.sdv_behavior.proofs.LineLaws.{orders_are_lines}
use Rattle.sdv_behavior.proofs.laws.orders_are_lines.Goals as goal

pub returns : goal.returns
returns c = orders_are_lines
