use Rattle.std.proofs.Common.{◌≡◌, ◌≤◌, min, drop}
use Rattle.sdv_text.specs.Fronts.{number_after}
use Rattle.sdv_text.proofs.fronts.capped_value.Given as goal

-- what is left to read after the value so far gives what all digits spell
abbrev pub invariant-loop-digit : goal.invariant-loop-digit
invariant-loop-digit l =
    (l.value ≤ l.most) × (min (number_after l.value (drop l.digit-index l.digits)) l.most ≡ min (number_after 0 l.digits) l.most)
