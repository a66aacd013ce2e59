-- The parts of the bits that bytes have: the first byte, the bits before the last byte, the seven bits before the end bit.
use Rattle.std.proofs.Common.{◌≡◌, Bool, true, false, ℕ, zero, suc, ◌+◌, ◌-◌, ◌*◌, ◌/◌, ◌%◌, ◌^◌, ◌<◌, List, [], ◌∷◌, ◌++◌, length, take, drop, get_or, refl, sym, ◌∙◌, ap, arith, bit_and, length-take-le}
use Rattle.std.specs.Prelude.{◌==◌, not, nat_eq}
use Rattle.std.proofs.Math.Seq.{take-append_seam, drop-append_seam, drop-append-add, take-length}
use Rattle.std.proofs.lemmas.Grind.{take_at_read}
use Rattle.std.proofs.lemmas.Nat.{and_mask}
use borrow.Author.Tests.{eqb-true}
use Rattle.sdv_frames.specs.Bits.{bits, bits_of, number_of}
use Rattle.sdv_frames.proofs.BitLaws.{bits-append, bits_of-append, bits_of-one, length-bits_of, number_of-bits}
use Rattle.sdv_frames.proofs.Tried.{holds_below, tried, same_bit, same_bit_is}

-- the bit at a place of a number
abbrev pub bit_at : ℕ → ℕ → Bool
bit_at place number = number / 2 ^ place % 2 == 1

-- the first byte's bits stand first
pub first_bits : (xs : List ℕ) → 0 < length xs → bits_of xs
    ≡ bit_at 7 (get_or xs 0 0) ∷ bit_at 6 (get_or xs 0 0) ∷ (bits 6 (get_or xs 0 0) ++ bits_of (drop 1 xs))
unfolding bits bits_of
first_bits [] h = absurd (omega arith)
first_bits (x ∷ xs) h = refl

-- all bytes are those before the last, and the last
split_last : (xs : List ℕ) (n : ℕ) → length xs ≡ suc n → bits_of xs ≡ bits_of (take n xs) ++ bits 8 (get_or xs n 0)
split_last xs n h =
    let all : take (n + 1) xs ≡ xs = ap (λ k. take k xs) (omega arith) ∙ take-length xs in
    ap bits_of (sym all ∙ (take_at_read xs n 0 (omega arith)).1)
    ∙ (bits_of-append (take n xs) (get_or xs n 0 ∷ []) ∙ ap (λ last. bits_of (take n xs) ++ last) (bits_of-one (get_or xs n 0)))

-- the bits of a last byte: seven, and the end bit
last_bits : (last : ℕ) → bits 8 last ≡ bits 7 (last / 2) ++ (bit_at 0 last) ∷ []
unfolding bits
last_bits last = bits-append 7 1 last

length_front : (xs : List ℕ) (n : ℕ) → length xs ≡ suc n → length (bits_of (take n xs)) ≡ 8 * suc n - 8
length_front xs n h = length-bits_of (take n xs) ∙ omega (arith, length-take-le n xs (omega arith))

-- the bits before the last byte
pub front_bits : (xs : List ℕ) (n : ℕ) → length xs ≡ suc n → take (8 * suc n - 8) (bits_of xs) ≡ bits_of (take n xs)
front_bits xs n h =
    ap (λ all. take (8 * suc n - 8) all) (split_last xs n h)
    ∙ (ap (λ k. take k (bits_of (take n xs) ++ bits 8 (get_or xs n 0))) (sym (length_front xs n h))
    ∙ take-append_seam (bits_of (take n xs)) (bits 8 (get_or xs n 0)))

back_bits : (xs : List ℕ) (n : ℕ) → length xs ≡ suc n → drop (8 * suc n - 8) (bits_of xs) ≡ bits 8 (get_or xs n 0)
back_bits xs n h =
    ap (λ all. drop (8 * suc n - 8) all) (split_last xs n h)
    ∙ (ap (λ k. drop k (bits_of (take n xs) ++ bits 8 (get_or xs n 0))) (sym (length_front xs n h))
    ∙ drop-append_seam (bits_of (take n xs)) (bits 8 (get_or xs n 0)))

-- the seven bits before the end bit
pub seven_bits : (xs : List ℕ) (n : ℕ) → length xs ≡ suc n → take 7 (drop (8 * suc n - 8) (bits_of xs)) ≡ bits 7 (get_or xs n 0 / 2)
unfolding bits
seven_bits xs n h = ap (take 7) (back_bits xs n h ∙ last_bits (get_or xs n 0))

-- the end bit
pub end_bit : (xs : List ℕ) (n : ℕ) → length xs ≡ suc n → drop (8 * suc n - 1) (bits_of xs) ≡ bit_at 0 (get_or xs n 0) ∷ []
unfolding bits
end_bit xs n h =
    let place : 8 * suc n - 1 ≡ length (bits_of (take n xs)) + 7 = omega (arith, length_front xs n h) in
    ap (λ k. drop k (bits_of xs)) place ∙ (ap (λ all. drop (length (bits_of (take n xs)) + 7) all) (split_last xs n h)
    ∙ drop-append-add (bits_of (take n xs)) (bits 8 (get_or xs n 0)) 7)

-- what tests of a byte say of its bits

abbrev is_start : ℕ → Bool
is_start f = same_bit (nat_eq (bit_and f 128) 0) (not (bit_at 7 f))

abbrev is_transmission : ℕ → Bool
is_transmission f = same_bit (nat_eq (bit_and f 64) 0) (not (bit_at 6 f))

abbrev is_end : ℕ → Bool
is_end f = same_bit (nat_eq (bit_and f 1) 0) (not (bit_at 0 f))

all_starts : holds_below is_start 256 ≡ true
all_starts = refl

all_transmissions : holds_below is_transmission 256 ≡ true
all_transmissions = refl

all_ends : holds_below is_end 256 ≡ true
all_ends = refl

zero_means : (x : ℕ) (b : Bool) → nat_eq x 0 ≡ not b → (x ≡ 0 → b ≡ false) × ((x ≡ 0 → ⊥) → b ≡ true)
zero_means zero true e = cc
zero_means zero false e = (λ _. refl, λ h. absurd (h refl))
zero_means (suc x) true e = (λ h. absurd (omega arith), λ _. refl)
zero_means (suc x) false e = let no : suc x ≡ 0 = eqb-true (suc x) 0 e in absurd (omega arith)

pub start_means : (f : ℕ) → f < 256 → (bit_and f 128 ≡ 0 → bit_at 7 f ≡ false) × ((bit_and f 128 ≡ 0 → ⊥) → bit_at 7 f ≡ true)
start_means f h = zero_means (bit_and f 128) (bit_at 7 f) (same_bit_is _ _ (tried is_start 256 f all_starts h))

pub end_means : (f : ℕ) → f < 256 → (bit_and f 1 ≡ 0 → bit_at 0 f ≡ false) × ((bit_and f 1 ≡ 0 → ⊥) → bit_at 0 f ≡ true)
end_means f h = zero_means (bit_and f 1) (bit_at 0 f) (same_bit_is _ _ (tried is_end 256 f all_ends h))

twice : (b : Bool) → not (not b) ≡ b
twice true = refl
twice false = refl

-- the transmission bit, as the code tests it
pub transmission_means : (f : ℕ) → f < 256 → not (nat_eq (bit_and f 64) 0) ≡ bit_at 6 f
transmission_means f h = ap not (same_bit_is (nat_eq (bit_and f 64) 0) (not (bit_at 6 f)) (tried is_transmission 256 f all_transmissions h))
    ∙ twice (bit_at 6 f)

-- the index that the six bits spell
pub index_means : (f : ℕ) → number_of (bits 6 f) ≡ bit_and f 63
index_means f = number_of-bits 6 f ∙ sym (and_mask f 6)
