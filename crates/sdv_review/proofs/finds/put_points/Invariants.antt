use Rattle.std.proofs.Common.{◌≡◌, ◌++◌}
use Rattle.sdv_review.specs.Findings.{findings_before}
use Rattle.sdv_review.proofs.finds.put_points.Given as goal

abbrev pub invariant-loop-point : goal.invariant-loop-point
invariant-loop-point l = l.found.items ≡ l.fn.found.items ++ findings_before l.graph.points l.known.points l.point
