use Rattle.std.proofs.Common.{arith}
use Rattle.std.proofs.lemmas.Grind.{common_steps}
use Rattle.sdv_facts.proofs.numbers.Numbers.at_start.Goals as goal

pub loop-preserved : goal.loop-preserved
loop-preserved c = grind (arith, common_steps)

pub returns-clause-hold : goal.returns-clause-hold
returns-clause-hold c = grind (arith, common_steps)
