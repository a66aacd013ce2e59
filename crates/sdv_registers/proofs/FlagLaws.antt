-- A flag, tested by a mask of one bit.
use Rattle.std.proofs.Common.{◌≡◌, ℕ, zero, suc, ◌+◌, ◌-◌, ◌*◌, ◌/◌, ◌%◌, ◌^◌, ◌<◌, ◌≤◌, ◌∙◌, arith}
use Rattle.std.specs.Prelude.{◌==◌}
use Rattle.std.specs.Int.RustNames.{bit_and}
use Rattle.std.proofs.lemmas.Nat.{and_mask, and_block, pow_pos, mod_below}
use Rattle.std.specs.Int.Bits.{and_zero_r}
use Rattle.std.proofs.lemmas.Bool.Decides.{nat_tests}
use Rattle.std.proofs.Math.Nat.{mod-add-div}
use Rattle.sdv_frames.specs.Bits.{bits}
use Rattle.sdv_registers.specs.Field.{is_set}
use Rattle.sdv_registers.proofs.FieldLaws.{field-bits}

-- a number and the mask of one bit share that bit alone
one_bit : (number place : ℕ) → bit_and number (2 ^ place) ≡ number / 2 ^ place % 2 * 2 ^ place
one_bit number place =
    let parts : number / 2 ^ place * 2 ^ place + number % 2 ^ place ≡ number = grind (arith, mod-add-div number (2 ^ place)) in
    let mask : 1 * 2 ^ place + 0 ≡ 2 ^ place = omega arith in
    let cut = and_block place (number / 2 ^ place) 1 (number % 2 ^ place) 0 (mod_below number (2 ^ place) (pow_pos place)) (pow_pos place) in
    let one : bit_and (number / 2 ^ place) 1 ≡ number / 2 ^ place % 2 = and_mask (number / 2 ^ place) 1 in
    let none : bit_and (number % 2 ^ place) 0 ≡ 0 = and_zero_r (number % 2 ^ place) in
    let whole : bit_and number (2 ^ place) ≡ bit_and (number / 2 ^ place) 1 * 2 ^ place + bit_and (number % 2 ^ place) 0 = rw (parts, mask) at cut in
    whole ∙ rw (one, none) (omega arith)

-- a digit of two, times a power, is the power where the digit is 1
digit_test : (digit power : ℕ) → digit < 2 → 0 < power → (digit * power == power) ≡ (digit == 1)
digit_test zero power h p = grind (arith, nat_tests)
digit_test (suc zero) power h p = grind (arith, nat_tests)
digit_test (suc (suc d)) power h p = absurd (omega arith)

-- a word contains the flag at a place exactly where its bit there is 1
pub contains-flag : (word place : ℕ) → place ≤ 31 → (bit_and word (2 ^ place) == 2 ^ place) ≡ is_set 31 place (bits 32 word)
contains-flag word place h =
    let width : place + 1 - place ≡ 1 = omega arith in
    let digit : word / 2 ^ place % 2 < 2 = mod_below (word / 2 ^ place) 2 (omega arith) in
    rw (one_bit word place, field-bits 31 place place word (omega arith) h, width) (digit_test (word / 2 ^ place % 2) (2 ^ place) digit (pow_pos place))
