use Rattle.std.proofs.Common.{◌∙◌}
use Rattle.sdv_script.proofs.CaseLaws.{before_last}
use Rattle.sdv_script.proofs.blocks.before.Goals as goal

pub loop-guards-preserved : goal.loop-guards-preserved
loop-guards-preserved c =
    rw c.in_ok-new.ensures.ok (before_last c.pop.new.self.items c.loop-guards.first.items c.in-Some.field-0 _ c.in-Some.ensures.items ∙ c.loop-guards.invariant)
