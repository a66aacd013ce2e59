use Rattle.std.proofs.Common.{arith}
use Rattle.std.proofs.lemmas.Grind.{common_steps}
use Rattle.sdv_facts.proofs.guards.one_may_fail.Goals as goal

pub loop-guard-preserved : goal.loop-guard-preserved
loop-guard-preserved c = grind (arith, common_steps)
