use Rattle.std.proofs.Common.{arith}
use Rattle.std.proofs.lemmas.Grind.{common_steps}
use Rattle.sdv_facts.proofs.units.all_by.Goals as goal

pub returns-then-flag-has_block_addresses : goal.returns-then-flag-has_block_addresses
returns-then-flag-has_block_addresses c = grind (arith, common_steps)

pub loop-shape-preserved : goal.loop-shape-preserved
loop-shape-preserved c = grind (arith, common_steps)
