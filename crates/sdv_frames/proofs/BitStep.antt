-- What the code makes of a remainder of seven bits and one more bit of the message.
use mathlib.Core.Bool.{beq}
use borrow.Author.Tests.{ltb-true}
use Rattle.std.proofs.Common.{◌≡◌, Bool, true, false, ℕ, ◌+◌, ◌-◌, ◌*◌, ◌/◌, ◌%◌, ◌^◌, ◌<◌, [], ◌∷◌, ◌++◌, refl, bit_and, arith, ap}
use Rattle.std.specs.Prelude.{◌==◌, if◌then◌else◌, nat_le, nat_lt, bit_xor, ◌&&◌}
use Rattle.sdv_frames.specs.Bits.{Bits, bits}
use Rattle.sdv_frames.specs.Polynomial.{IsCrc7}
use Rattle.std.proofs.lemmas.Nat.{and_mask, shr-shr}
use Rattle.std.proofs.Math.Nat.{div-one}
use Rattle.sdv_frames.proofs.BitLaws.{bits-append}
use Rattle.sdv_frames.proofs.CrcLaws.{step, low, crc7-append}
use Rattle.sdv_frames.proofs.Tried.{holds_below, tried, same_bits, same_bits_are, both}

-- the highest bit of the remainder is the bit of the message
abbrev pub agrees : ℕ → Bool → Bool
agrees crc bit = beq (nat_le 64 crc) bit

abbrev pub moved : ℕ → ℕ
moved crc = bit_and (crc * 2) 127

abbrev pub next : ℕ → Bool → ℕ
next crc bit = if agrees crc bit then moved crc else bit_xor (moved crc) 9

below : (n m : ℕ) → nat_lt n m ≡ true → n < m
below n m h = ltb-true n m h

abbrev is_step : Bool → ℕ → Bool
is_step bit crc = same_bits (bits 7 (next crc bit)) (step (crc / 64 % 2 == 1) (bits 6 crc) bit) && nat_lt (next crc bit) 128

all_steps : (bit : Bool) → holds_below (is_step bit) 128 ≡ true
unfolding bits step low
all_steps true = refl
all_steps false = refl

-- the code's next remainder is that of one more bit, and has seven bits
next_is : (crc : ℕ) (bit : Bool) → crc < 2 ^ 7 → (bits 7 (next crc bit) ≡ step (crc / 64 % 2 == 1) (bits 6 crc) bit) × (nat_lt (next crc bit) 128 ≡ true)
next_is crc bit h =
    let parts = both (same_bits (bits 7 (next crc bit)) (step (crc / 64 % 2 == 1) (bits 6 crc) bit)) (nat_lt (next crc bit) 128)
    (tried (is_step bit) 128 crc (all_steps bit) h) in
    (same_bits_are (bits 7 (next crc bit)) (step (crc / 64 % 2 == 1) (bits 6 crc) bit) parts.0, parts.1)

-- so it is the CRC7 of the message with the bit
next_crc7 : (message : Bits) (crc : ℕ) (bit : Bool) → crc < 2 ^ 7 → IsCrc7 message (bits 7 crc) → IsCrc7 (message ++ bit ∷ []) (bits 7 (next crc bit))
unfolding bits
next_crc7 message crc bit h c = rw ((next_is crc bit h).0) (crc7-append message (crc / 64 % 2 == 1) (bits 6 crc) bit c)

next_where : (crc : ℕ) (bit here : Bool) → agrees crc bit ≡ here → next crc bit ≡ (if here then moved crc else bit_xor (moved crc) 9)
next_where crc bit here e = ap (λ b. if b then moved crc else bit_xor (moved crc) 9) e

-- by whether the bits agree
pub crc7_where : (message : Bits) (crc : ℕ) (bit here : Bool) → agrees crc bit ≡ here → crc < 2 ^ 7 → IsCrc7 message (bits 7 crc) →
    IsCrc7 (message ++ bit ∷ []) (bits 7 (if here then moved crc else bit_xor (moved crc) 9))
crc7_where message crc bit here e h c = rw (← next_where crc bit here e) (next_crc7 message crc bit h c)

pub small_where : (crc : ℕ) (bit here : Bool) → agrees crc bit ≡ here → crc < 2 ^ 7 → (if here then moved crc else bit_xor (moved crc) 9) < 2 ^ 7
small_where crc bit here e h = rw (← next_where crc bit here e) (below (next crc bit) 128 (next_is crc bit h).1)

last_bit : (n : ℕ) → bits 1 n ≡ (bit_and n 1 == 1) ∷ []
unfolding bits
last_bit n = rw (and_mask n 1, div-one n) refl

-- the highest bits of a byte, and the next one
pub next_bit : (place byte : ℕ) → place < 8 → bits (place + 1) (byte / 2 ^ (8 - (place + 1)))
    ≡ bits place (byte / 2 ^ (8 - place)) ++ (bit_and (byte / 2 ^ (7 - place)) 1 == 1) ∷ []
next_bit place byte h =
    let down : 8 - (place + 1) ≡ 7 - place = omega arith in
    let up : 8 - place ≡ 7 - place + 1 = omega arith in
    rw (down, up, bits-append place 1 (byte / 2 ^ (7 - place)), shr-shr byte (7 - place) 1)
    (ap (λ last. bits place (byte / 2 ^ (7 - place + 1)) ++ last) (last_bit (byte / 2 ^ (7 - place))))
