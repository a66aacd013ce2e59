use Rattle.std.proofs.Common.{List}
use Rattle.sdv_card.specs.declared.shape.Shape.{Shape}
use Rattle.sdv_facts.specs.Closed.{PointMatches}
use Rattle.sdv_facts.specs.Shared.{points_in}
use Rattle.sdv_check.specs.Asked.{EachBelow}
use Rattle.sdv_calls.proofs.matching.points_match.Given as goal

abbrev pub invariant-loop-number : goal.invariant-loop-number
invariant-loop-number l =
    (sets : List (List Shape)) → EachBelow l.graph.points (points_in sets l.points) l.number (PointMatches l.graph)
