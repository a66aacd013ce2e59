use Rattle.std.proofs.Common.{take}
use Rattle.sdv_card.specs.declared.shape.Shape.{Shape}
use Rattle.sdv_card.specs.Lists.{May}
use Rattle.sdv_facts.specs.Shared.{facts_in}
use Rattle.sdv_graph.specs.Graph.{seen_action}
use Rattle.sdv_calls.specs.Closed.{ShapeRests}
use Rattle.sdv_calls.proofs.points.shapes_rest.Given as goal

abbrev pub invariant-loop-shape : goal.invariant-loop-shape
invariant-loop-shape l =
    (s : Shape) → May (take l.shape-index l.shapes) s → ShapeRests (seen_action l.action) (facts_in l.table l.rest) s
