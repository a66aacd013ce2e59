use Rattle.std.proofs.Common.{◌≡◌, take, not, true}
use Rattle.sdv_card.specs.declared.shape.Shape.{Shape}
use Rattle.sdv_card.specs.Lists.{May}
use Rattle.sdv_card.specs.LegalShapes.{legal_code}
use Rattle.sdv_audit.specs.Turns.{event_at}
use Rattle.sdv_audit.proofs.shapes.is_forbidden.Given as goal

abbrev pub invariant-loop-shape : goal.invariant-loop-shape
invariant-loop-shape l =
    (s : Shape) → May (take l.shape-index l.shapes) s → not (legal_code l.kind s.0 (event_at l.deed s.0)) ≡ true
