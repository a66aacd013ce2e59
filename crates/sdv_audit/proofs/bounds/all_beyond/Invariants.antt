use Rattle.std.proofs.Common.{◌≡◌, take, true}
use Rattle.sdv_card.specs.declared.shape.Shape.{Shape}
use Rattle.sdv_card.specs.Lists.{May}
use Rattle.sdv_audit.specs.Beyond.{is_beyond}
use Rattle.sdv_audit.proofs.bounds.all_beyond.Given as goal

abbrev pub invariant-loop-shape : goal.invariant-loop-shape
invariant-loop-shape l = (s : Shape) → May (take l.shape-index l.shapes) s → is_beyond l.kind l.known l.turn l.line s.0 ≡ true
