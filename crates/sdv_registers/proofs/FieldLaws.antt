-- What a field is of the number that a register's bits spell, and of the bytes that they fill.
use Rattle.std.proofs.Common.{◌≡◌, ℕ, ◌+◌, ◌-◌, ◌*◌, ◌/◌, ◌%◌, ◌^◌, ◌≤◌, ◌++◌, take, drop, refl, arith}
use Rattle.std.proofs.Math.Seq.{drop-append_seam, take-append_seam}
use Rattle.std.specs.Int.RustNames.{bit_and}
use Rattle.std.proofs.lemmas.Nat.{and_mask}
use Rattle.std.proofs.Math.Nat.{pow-le-pow_right}
use Rattle.sdv_frames.specs.Bits.{bits, number_of}
use Rattle.sdv_frames.proofs.BitLaws.{length-bits, bits-append, number_of-bits}
use Rattle.sdv_registers.specs.Field.{field}

-- the bits of a number without the first m, and without the last n
pub drop-bits : (m n number : ℕ) → drop m (bits (m + n) number) ≡ bits n number
drop-bits m n number =
    let e : drop m (bits m (number / 2 ^ n) ++ bits n number) ≡ bits n number =
    rw (length-bits m (number / 2 ^ n)) at (drop-append_seam (bits m (number / 2 ^ n)) (bits n number)) in
    rw (bits-append m n number) e

pub take-bits : (m n number : ℕ) → take m (bits (m + n) number) ≡ bits m (number / 2 ^ n)
take-bits m n number =
    let e : take m (bits m (number / 2 ^ n) ++ bits n number) ≡ bits m (number / 2 ^ n) =
    rw (length-bits m (number / 2 ^ n)) at (take-append_seam (bits m (number / 2 ^ n)) (bits n number)) in
    rw (bits-append m n number) e

-- a field of a number is a remainder of a quotient: the lowest n of its bits, without m in front and
-- k behind
pub field-number : (total m n k number : ℕ) → total ≡ m + (n + k) → number_of (take n (drop m (bits total number))) ≡ number / 2 ^ k % 2 ^ n
field-number total m n k number e =
    rw (e, drop-bits m (n + k) number, take-bits n k number, number_of-bits n (number / 2 ^ k)) refl

pub field-bits : (top high low number : ℕ) → low ≤ high → high ≤ top → field top high low (bits (top + 1) number) ≡ number / 2 ^ low % 2 ^ (high + 1 - low)
field-bits top high low number within below =
    field-number (top + 1) (top - high) (high + 1 - low) low number (omega arith)

-- the mask of the n lowest bits, as code of 128 bits makes it
pub masked : (number n : ℕ) → n ≤ 64 → bit_and number (1 * 2 ^ n % 2 ^ 128 - 1) ≡ number % 2 ^ n
masked number n h =
    let top : 2 ^ n ≤ 2 ^ 64 = pow-le-pow_right {n = 2} (omega arith) {i = n} {j = 64} (omega arith) in
    let whole : 1 * 2 ^ n % 2 ^ 128 ≡ 2 ^ n = omega arith in
    rw whole (and_mask number n)
