use Rattle.std.proofs.Common.{◌≡◌, drop}
use Rattle.std.specs.List.{list_any}
use mathlib.Core.Bool.{beq}
use Rattle.sdv_card.specs.ShapeBits.{has_flag}
use Rattle.sdv_review.proofs.conditions.one_has.Given as goal

abbrev pub invariant-loop-shape : goal.invariant-loop-shape
invariant-loop-shape l =
    list_any (λ s. beq (has_flag s l.flag) l.on) (drop l.shape-index l.shapes) ≡ list_any (λ s. beq (has_flag s l.flag) l.on) l.shapes
