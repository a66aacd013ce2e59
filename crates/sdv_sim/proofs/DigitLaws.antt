-- A value that has a digit is one of a schedule.
use Rattle.std.proofs.Common.{◌≡◌, true, ℕ, List, [], ◌∷◌, refl, nat_le, leb-true}
use Rattle.sdv_card.proofs.Members.{and_left, and_right}
use Rattle.sdv_behavior.specs.Schedules.{are_codes}
use Rattle.sdv_behavior.proofs.Codes.{digit_known}
use Rattle.sdv_sim.specs.Made.{are_digits}

pub digits_known : (codes : List ℕ) → are_digits codes ≡ true → are_codes codes ≡ true
digits_known [] h = refl
digits_known (code ∷ codes) h =
    rw (digit_known code (leb-true code 7 (and_left (nat_le code 7) (are_digits codes) h)))
    (digits_known codes (and_right (nat_le code 7) (are_digits codes) h))
