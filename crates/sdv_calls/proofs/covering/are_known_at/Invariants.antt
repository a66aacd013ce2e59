use Rattle.std.proofs.Common.{take}
use Rattle.sdv_card.specs.declared.shape.Shape.{Shape}
use Rattle.sdv_card.specs.Lists.{May}
use Rattle.sdv_facts.specs.Shared.{point_in}
use Rattle.sdv_calls.specs.Closed.{IsKnownAt}
use Rattle.sdv_calls.proofs.covering.are_known_at.Given as goal

abbrev pub invariant-loop-shape : goal.invariant-loop-shape
invariant-loop-shape l = (s : Shape) → May (take l.shape-index l.shapes) s → IsKnownAt (point_in l.said.table.now l.facts) l.numbers s
