use Rattle.sdv_facts.specs.Closed.{PointClosed}
use Rattle.sdv_check.specs.Asked.{EachBelow}
use Rattle.sdv_check.proofs.checker.first_fault.Given as goal

abbrev pub invariant-loop-number : goal.invariant-loop-number
invariant-loop-number g l = EachBelow l.graph.points l.certificate.points l.number (PointClosed l.graph.kind l.certificate.points)
