use Rattle.std.proofs.Common.{take, List}
use Rattle.sdv_card.specs.declared.shape.Shape.{Shape}
use Rattle.sdv_card.specs.Lists.{May}
use Rattle.sdv_facts.specs.Shared.{facts_in}
use Rattle.sdv_graph.specs.Graph.{seen_action}
use Rattle.sdv_calls.specs.Closed.{NumbersRest}
use Rattle.sdv_calls.proofs.points.each_rests.Given as goal

abbrev pub invariant-loop-shape : goal.invariant-loop-shape
invariant-loop-shape l =
    (sets : List (List Shape)) (s : Shape) → May (take l.shape-index l.shapes) s → NumbersRest (seen_action l.action) (facts_in sets l.rest) l.carried s
