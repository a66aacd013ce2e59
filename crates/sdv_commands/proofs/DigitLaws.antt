-- The values of a schedule of digits: a card has all of them exactly where each byte may stand in one.
use Rattle.std.proofs.Common.{◌≡◌, ◌∙◌, ◌≤◌, ◌-◌, ◌&&◌, ◌||◌, ap, refl, arith, Bool, true, false, ℕ, nat_le, List, [], ◌∷◌, if◌then◌else◌, leb-true}
use Rattle.std.specs.Prelude.{is_some}
use Rattle.sdv_card.proofs.Members.{and_right}
use Rattle.sdv_behavior.specs.Schedules.{are_codes, behavior_of_code}
use Rattle.sdv_behavior.proofs.Codes.{digit_known}
use Rattle.sdv_commands.specs.Run.{code_of, is_schedule, is_space, is_value, schedule_codes}

value_known : (byte : ℕ) (is : Bool) → is_value byte ≡ is → is_some (behavior_of_code (if is then byte - 48 else 255)) ≡ is
value_known byte false e = refl
value_known byte true e = let h : byte ≤ 55 = leb-true byte 55 (and_right (nat_le 48 byte) (nat_le byte 55) e) in digit_known (byte - 48) (omega (arith, h))

byte_known : (byte : ℕ) (bytes : List ℕ) (space : Bool) → are_codes (schedule_codes bytes) ≡ is_schedule bytes
    → are_codes (if space then schedule_codes bytes else code_of byte ∷ schedule_codes bytes) ≡ ((space || is_value byte) && is_schedule bytes)
byte_known byte bytes true so = so
byte_known byte bytes false so =
    ap (λ v. v && are_codes (schedule_codes bytes)) (value_known byte (is_value byte) refl) ∙ ap (λ v. is_value byte && v) so

pub schedule_known : (bytes : List ℕ) → are_codes (schedule_codes bytes) ≡ is_schedule bytes
schedule_known [] = refl
schedule_known (byte ∷ bytes) = byte_known byte bytes (is_space byte) (schedule_known bytes)
