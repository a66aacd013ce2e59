use Rattle.std.proofs.Common.{rules, arith}
use Rattle.sdv_behavior.proofs.Described.{capacity_small}
use Rattle.sdv_behavior.proofs.card_desc.CardDesc.partition_place.Goals as goal

pub overflow_add-result : goal.overflow_add-result
overflow_add-result c = omega (arith, capacity_small c.args.self.now)

pub returns-in-Boot1-clause-small : goal.returns-in-Boot1-clause-small
returns-in-Boot1-clause-small c = omega (arith, capacity_small c.args.self.now)

pub returns-in-Boot2-clause-small : goal.returns-in-Boot2-clause-small
returns-in-Boot2-clause-small c = omega (arith, capacity_small c.args.self.now)

pub returns-in-Boot1-clause-place : goal.returns-in-Boot1-clause-place
returns-in-Boot1-clause-place c = search rules
