use Rattle.std.proofs.Common.{arith}
use Rattle.std.proofs.lemmas.Grind.{common_steps}
use Rattle.sdv_image.proofs.order.Order.least_recent.Goals as goal

pub returns-clause-first : goal.returns-clause-first
returns-clause-first c = grind (arith, common_steps)
