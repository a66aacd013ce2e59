use Rattle.std.proofs.Common.{take}
use Rattle.sdv_card.specs.declared.shape.Shape.{Shape}
use Rattle.sdv_card.specs.Lists.{May}
use Rattle.sdv_check.specs.Asked.{AskedFrom}
use Rattle.sdv_check.proofs.clauses.shapes_hold.Given as goal

abbrev pub invariant-loop-shape : goal.invariant-loop-shape
invariant-loop-shape g l = (s : Shape) → May (take l.shape-index l.shapes) s → AskedFrom l.asked g.T.CardTable.kind l.at s
