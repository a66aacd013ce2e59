use Rattle.sdv_explain.specs.Failing.{AreFailuresUpTo}
use Rattle.sdv_explain.proofs.failing.failures_of.Given as goal

abbrev pub invariant-loop-point : goal.invariant-loop-point
invariant-loop-point l = AreFailuresUpTo l.graph l.known.points l.point l.failures.items
