use Rattle.std.proofs.Common.{◌≡◌, ◌≤◌, ◌^◌, ◌+◌, min, drop}
use Rattle.sdv_script.specs.Tokens.{number_after}
use Rattle.sdv_script.proofs.token.capped_value.Given as goal

abbrev pub invariant-loop-byte : goal.invariant-loop-byte
invariant-loop-byte l =
    (l.value ≤ 2 ^ 40 + 1)
    × (min (number_after l.base l.value (drop l.byte-index l.digits)) (2 ^ 40 + 1) ≡ min (number_after l.base 0 l.digits) (2 ^ 40 + 1))
