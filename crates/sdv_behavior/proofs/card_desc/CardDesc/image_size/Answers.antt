use Rattle.std.proofs.Common.{arith}
use Rattle.sdv_behavior.proofs.Described.{capacity_small}
use Rattle.sdv_behavior.proofs.card_desc.CardDesc.image_size.Goals as goal

pub overflow_add-result : goal.overflow_add-result
overflow_add-result c = omega (arith, capacity_small c.args.self.now)
