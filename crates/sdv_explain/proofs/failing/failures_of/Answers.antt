use Rattle.std.proofs.Common.{◌∙◌, ap}
use Rattle.sdv_explain.proofs.FailingLaws.{failing_more, fine_more}
use Rattle.sdv_explain.proofs.failing.failures_of.Goals as goal
use Rattle.sdv_explain.proofs.failing.failures_of.Goals.{in-Some+in_ok-push, in_default}

pub loop-point-preserved : goal.loop-point-preserved
loop-point-preserved c =
    elim c.match-failure_of.branch [
      | in-Some+in_ok-push w ↦
          failing_more c.args.graph.now c.args.known.now.points c.loop-point.point c.loop-point.failures.items c.match-failure_of.failures.items
          w.in-Some.failure c.loop-point.invariant w.in-Some.ensures.fails (ap (λ v. v.items) w.failures-is ∙ w.in_ok-push.ensures.items)
      | in_default w ↦
          fine_more c.args.graph.now c.args.known.now.points c.loop-point.point c.loop-point.failures.items c.match-failure_of.failures.items
          c.loop-point.invariant w.in_default.ensures.fine (ap (λ v. v.items) w.failures-is)
    ]
