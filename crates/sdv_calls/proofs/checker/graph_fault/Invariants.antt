use Rattle.sdv_calls.specs.Closed.{ClosedBelow}
use Rattle.sdv_calls.specs.Shown.{points_said, rest_said}
use Rattle.sdv_calls.proofs.checker.graph_fault.Given as goal

abbrev pub invariant-loop-number : goal.invariant-loop-number
invariant-loop-number g l = ClosedBelow (rest_said l.said) l.graph (points_said l.said) l.number
