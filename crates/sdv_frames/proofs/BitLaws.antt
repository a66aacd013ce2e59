-- Laws of lists of bits: their lengths, how they join, and the numbers that they spell.
use Rattle.std.proofs.Common.{◌≡◌, Bool, true, false, ℕ, zero, suc, ◌+◌, ◌*◌, ◌/◌, ◌%◌, ◌^◌, ◌<◌, List, [], ◌∷◌, ◌++◌, length, refl, sym, ◌∙◌, ap, arith, append_assoc, length-append, one-add, add_comm, zero-add, append-nil, take, get_or}
use Rattle.std.proofs.lemmas.Grind.{take_at_read}
use Rattle.std.specs.Prelude.{◌==◌, if◌then◌else◌}
use Rattle.std.proofs.Math.Nat.{suc-add, mod-mod, pow-suc, one-mul, div-eq_of_lt}
use Rattle.std.proofs.Math.Pow.{mod-mod-pow}
use Rattle.std.proofs.lemmas.Nat.{shr-shr, mod-pow-add, mod_below, shr_high, mod_low, field_of, pow-add}
use Rattle.sdv_frames.specs.Bits.{Bits, bits, bits_of, number_of}

-- the n lowest bits are n bits
pub length-bits : (n number : ℕ) → length (bits n number) ≡ n
unfolding bits
length-bits zero number = refl
length-bits (suc n) number = ap suc (length-bits n number)

-- the bits of a number of m + n bits are those of its quotient and its remainder
pub bits-append : (m n number : ℕ) → bits (m + n) number ≡ bits m (number / 2 ^ n) ++ bits n number
unfolding bits
bits-append zero n number = rw zero-add refl
bits-append (suc m) n number = rw (suc-add m n, shr-shr number n m, add_comm n m, bits-append m n number) refl

-- the lowest bits depend on the remainder alone
pub bits-mod : (n number : ℕ) → bits n (number % 2 ^ n) ≡ bits n number
unfolding bits
bits-mod zero number = refl
bits-mod (suc n) number =
    rw (← one-add n, field_of number 1 n) (
    rw (← bits-mod n (number % 2 ^ (1 + n)), mod-mod-pow number 1 n, bits-mod n number, mod-mod (number / 2 ^ n) 2) refl)

-- a digit of two, times a power
pub digit_times : (digit power : ℕ) → digit < 2 → (if digit == 1 then power else 0) ≡ digit * power
digit_times zero power h = grind arith
digit_times (suc zero) power h = grind arith
digit_times (suc (suc d)) power h = absurd (omega arith)

-- the number that the n lowest bits spell
pub number_of-bits : (n number : ℕ) → number_of (bits n number) ≡ number % 2 ^ n
unfolding bits number_of
number_of-bits zero number = grind arith
number_of-bits (suc n) number =
    rw (
      length-bits n number,
      number_of-bits n number,
      digit_times (number / 2 ^ n % 2) (2 ^ n) (mod_below (number / 2 ^ n) 2 (omega arith)),
      ← one-add n,
      mod-pow-add number 1 n,
    ) refl

-- bits spell a number below the power of their count
pub number_of_below : (bs : Bits) → number_of bs < 2 ^ length bs
unfolding number_of
number_of_below [] = omega arith
number_of_below (true ∷ bs) = omega (arith, number_of_below bs, pow-suc 2 (length bs))
number_of_below (false ∷ bs) = omega (arith, number_of_below bs, pow-suc 2 (length bs))

above_div : (n low : ℕ) → low < 2 ^ n → (2 ^ n + low) / 2 ^ n ≡ 1
above_div n low h = ap (λ x. (x + low) / 2 ^ n) (sym (one-mul (2 ^ n))) ∙ shr_high 1 n low h

above_mod : (n low : ℕ) → low < 2 ^ n → (2 ^ n + low) % 2 ^ n ≡ low
above_mod n low h = ap (λ x. (x + low) % 2 ^ n) (sym (one-mul (2 ^ n))) ∙ mod_low 1 n low h

-- the bits of the number that bits spell
pub bits-number_of : (bs : Bits) → bits (length bs) (number_of bs) ≡ bs
unfolding bits number_of
bits-number_of [] = refl
bits-number_of (true ∷ bs) =
    rw (
      above_div (length bs) (number_of bs) (number_of_below bs),
      ← bits-mod (length bs) (2 ^ length bs + number_of bs),
      above_mod (length bs) (number_of bs) (number_of_below bs),
      bits-number_of bs,
    ) refl
bits-number_of (false ∷ bs) =
    rw (zero-add (number_of bs), div-eq_of_lt (number_of_below bs), bits-number_of bs) refl

joined : (b : Bool) (high low n m : ℕ) → (if b then high * low else 0) + (n * low + m) ≡ ((if b then high else 0) + n) * low + m
joined true high low n m = grind arith
joined false high low n m = grind arith

-- joined bits spell the first number in the higher place
pub number_of-append : (p q : Bits) → number_of (p ++ q) ≡ number_of p * 2 ^ length q + number_of q
unfolding number_of
number_of-append [] q = grind arith
number_of-append (b ∷ p) q = rw (number_of-append p q, length-append p q, pow-add 2 (length p) (length q))
    (joined b (2 ^ length p) (2 ^ length q) (number_of p) (number_of q))

pub bits_of-append : (xs ys : List ℕ) → bits_of (xs ++ ys) ≡ bits_of xs ++ bits_of ys
unfolding bits_of
bits_of-append [] ys = refl
bits_of-append (x ∷ xs) ys = ap (λ rest. bits 8 x ++ rest) (bits_of-append xs ys) ∙ sym (append_assoc (bits 8 x) (bits_of xs) (bits_of ys))

pub length-bits_of : (bytes : List ℕ) → length (bits_of bytes) ≡ 8 * length bytes
unfolding bits_of
length-bits_of [] = refl
length-bits_of (x ∷ xs) = rw (length-append (bits 8 x) (bits_of xs), length-bits 8 x, length-bits_of xs) (omega arith)

-- the bits of one byte
pub bits_of-one : (byte : ℕ) → bits_of (byte ∷ []) ≡ bits 8 byte
unfolding bits_of
bits_of-one byte = append-nil (bits 8 byte)

-- the bits of one byte more
pub bits_of-take : (bytes : List ℕ) (i : ℕ) → i < length bytes → bits_of (take (i + 1) bytes) ≡ bits_of (take i bytes) ++ bits 8 (get_or bytes i 0)
bits_of-take bytes i h = rw ((take_at_read bytes i 0 h).1, bits_of-append (take i bytes) (get_or bytes i 0 ∷ []), bits_of-one (get_or bytes i 0)) refl
