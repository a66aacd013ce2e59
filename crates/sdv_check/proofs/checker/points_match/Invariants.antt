use Rattle.sdv_facts.specs.Closed.{PointMatches}
use Rattle.sdv_check.specs.Asked.{EachBelow}
use Rattle.sdv_check.proofs.checker.points_match.Given as goal

abbrev pub invariant-loop-number : goal.invariant-loop-number
invariant-loop-number l = EachBelow l.graph.points l.certificate.points l.number (PointMatches l.graph)
