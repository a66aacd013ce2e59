-- The bits of bytes are those of the number that the bytes spell, in either order.
use Rattle.std.proofs.Common.{◌≡◌, ℕ, zero, suc, ◌+◌, ◌-◌, ◌*◌, ◌/◌, ◌%◌, ◌^◌, ◌<◌, ◌≤◌, List, [], ◌∷◌, ◌++◌, length, take, drop, refl, sym, arith, slice_index, length-drop}
use Rattle.std.specs.Prelude.{reverse}
use Rattle.std.proofs.lemmas.Nat.{shr_high, mod_low}
use Rattle.std.proofs.Math.Seq.{drop-cons, drop-append_seam, take-append_seam}
use Rattle.std.proofs.lemmas.List.{reverse-append}
use Rattle.byteorder.specs.Endian.{big_from, little_from}
use Rattle.byteorder.specs.Numbers.{big_from-lt, little_from-lt}
use Rattle.byteorder.proofs.Bytes.{pow256}
use Rattle.std.proofs.lemmas.List.{take_all, get_or-drop, length-take-le, take-append-drop}
use Rattle.std.proofs.Math.Nat.{mod-eq_of_lt}
use Rattle.sdv_frames.specs.Bits.{bits, bits_of, number_of}
use Rattle.sdv_frames.proofs.BitLaws.{bits-append, bits-mod, number_of-bits, bits_of-append, length-bits_of}
use Rattle.sdv_registers.specs.Field.{field}
use Rattle.sdv_registers.proofs.FieldLaws.{field-number}

-- each item is a byte
abbrev pub AreBytes : List ℕ → Type 0
AreBytes xs = (k : ℕ) → slice_index xs k < 256

-- the bits of a number that consists of a high part and n lower bits
pub bits-joined : (m n high low : ℕ) → low < 2 ^ n → bits (m + n) (high * 2 ^ n + low) ≡ bits m high ++ bits n low
bits-joined m n high low h =
    rw (bits-append m n (high * 2 ^ n + low), shr_high high n low h, ← bits-mod n (high * 2 ^ n + low), mod_low high n low h) refl

-- a byte before n others, which spell low
byte_before : (n x low : ℕ) → low < 256 ^ n → bits (8 * suc n) (x * 256 ^ n + low) ≡ bits 8 x ++ bits (8 * n) low
byte_before n x low h =
    let places : 8 * suc n ≡ 8 + 8 * n = omega arith in
    rw (places, pow256 n) (bits-joined 8 (8 * n) x low (rw (pow256 n) at h))

-- a byte after n others, which spell high
byte_after : (n x high : ℕ) → x < 256 → bits (8 * suc n) (x + 256 * high) ≡ bits (8 * n) high ++ bits 8 x
byte_after n x high h =
    let places : 8 * suc n ≡ 8 * n + 8 = omega arith in
    let sum : x + 256 * high ≡ high * 2 ^ 8 + x = omega arith in
    rw (places, sum) (bits-joined (8 * n) 8 high x h)

-- the bits of the n bytes from place i: the highest byte first, and the lowest first
pub bits_of-big : (i n : ℕ) (xs : List ℕ) → AreBytes xs → i + n ≤ length xs → bits_of (take n (drop i xs)) ≡ bits (8 * n) (big_from i n xs)
unfolding bits bits_of
bits_of-big i zero xs bytes h = refl
bits_of-big i (suc n) xs bytes h =
    rw (
      drop-cons xs i 0 (omega arith),
      bits_of-big (suc i) n xs bytes (omega arith),
      byte_before n (slice_index xs i) (big_from (suc i) n xs) (big_from-lt (suc i) n xs bytes),
    ) refl

pub bits_of-little : (i n : ℕ) (xs : List ℕ) → AreBytes xs → i + n ≤ length xs → bits_of (reverse (take n (drop i xs))) ≡ bits (8 * n) (little_from i n xs)
unfolding bits bits_of
bits_of-little i zero xs bytes h = refl
bits_of-little i (suc n) xs bytes h =
    let last_first = reverse-append (slice_index xs i ∷ []) (take n (drop (suc i) xs)) in
    rw (
      drop-cons xs i 0 (omega arith),
      last_first,
      bits_of-append (reverse (take n (drop (suc i) xs))) (slice_index xs i ∷ []),
      bits_of-little (suc i) n xs bytes (omega arith),
      byte_after n (slice_index xs i) (little_from (suc i) n xs) (bytes i),
    ) refl

-- A field of the bits that n bytes fill, which end before the bit numbered below: a remainder of a
-- quotient of the number that the bytes spell, the highest first.
pub field-bytes : (top high low below n : ℕ) (xs : List ℕ) → AreBytes xs → length xs ≡ n → top + 1 ≡ 8 * n + below → below ≤ low → low ≤ high → high ≤ top
    → field top high low (bits_of xs) ≡ big_from 0 n xs / 2 ^ (low - below) % 2 ^ (high + 1 - low)
field-bytes top high low below n xs bytes long size above order within =
    let all : take n xs ≡ xs = take_all n xs (omega arith) in
    let spelled : bits_of xs ≡ bits (8 * n) (big_from 0 n xs) = rw all at (bits_of-big 0 n xs bytes (omega arith)) in
    rw spelled (field-number (8 * n) (top - high) (high + 1 - low) (low - below) (big_from 0 n xs) (omega arith))

-- the number that the n bytes from place i spell, the lowest first
pub number_of-little : (i n : ℕ) (xs : List ℕ) → AreBytes xs → i + n ≤ length xs → number_of (bits_of (reverse (take n (drop i xs)))) ≡ little_from i n xs
number_of-little i n xs bytes h =
    let low : little_from i n xs < 2 ^ (8 * n) = rw (pow256 n) at (little_from-lt i n xs bytes) in
    rw (bits_of-little i n xs bytes h, number_of-bits (8 * n) (little_from i n xs)) (mod-eq_of_lt low)

-- bytes from place k on, and the first k, are the bits from place 8 k on, and the first 8 k
pub bits_of-drop : (k : ℕ) (xs : List ℕ) → k ≤ length xs → drop (8 * k) (bits_of xs) ≡ bits_of (drop k xs)
bits_of-drop k xs h =
    let places : length (bits_of (take k xs)) ≡ 8 * k = rw (length-bits_of (take k xs), length-take-le k xs h) refl in
    let parts : bits_of xs ≡ bits_of (take k xs) ++ bits_of (drop k xs) =
    rw (take-append-drop k xs) at (bits_of-append (take k xs) (drop k xs)) in
    rw parts (rw places at (drop-append_seam (bits_of (take k xs)) (bits_of (drop k xs))))

pub bits_of-take : (k : ℕ) (xs : List ℕ) → k ≤ length xs → take (8 * k) (bits_of xs) ≡ bits_of (take k xs)
bits_of-take k xs h =
    let places : length (bits_of (take k xs)) ≡ 8 * k = rw (length-bits_of (take k xs), length-take-le k xs h) refl in
    let parts : bits_of xs ≡ bits_of (take k xs) ++ bits_of (drop k xs) =
    rw (take-append-drop k xs) at (bits_of-append (take k xs) (drop k xs)) in
    rw parts (rw places at (take-append_seam (bits_of (take k xs)) (bits_of (drop k xs))))

-- the bits of the n bytes from place k
pub bits_of-part : (k n : ℕ) (xs : List ℕ) → k + n ≤ length xs → bits_of (take n (drop k xs)) ≡ take (8 * n) (drop (8 * k) (bits_of xs))
bits_of-part k n xs h =
    rw (bits_of-drop k xs (omega arith), bits_of-take n (drop k xs) (omega (arith, length-drop k xs))) refl

-- what is left of a list of bytes from a place on is one
bytes_left : (i : ℕ) (xs : List ℕ) → AreBytes xs → AreBytes (drop i xs)
bytes_left i xs bytes k = rw (get_or-drop i xs k 0) (bytes (i + k))

-- The number that the first n bytes spell, the lowest first, of what is left of a register from place
-- i on: that of the n bytes from place i, and below their power.
pub little_from-left : (i n left : ℕ) (xs : List ℕ) → AreBytes xs → i + n ≤ length xs → i + left ≡ length xs
    → little_from 0 n (take left (drop i xs)) ≡ number_of (bits_of (reverse (take n (drop i xs))))
little_from-left i n left xs bytes h all =
    let whole : take left (drop i xs) ≡ drop i xs = take_all left (drop i xs) (omega (arith, length-drop i xs)) in
    rw whole (sym (number_of-little 0 n (drop i xs) (bytes_left i xs bytes) (omega (arith, length-drop i xs))))

pub little_from-left-lt : (i n left : ℕ) (xs : List ℕ) → AreBytes xs → i + left ≡ length xs → little_from 0 n (take left (drop i xs)) < 256 ^ n
little_from-left-lt i n left xs bytes all =
    let whole : take left (drop i xs) ≡ drop i xs = take_all left (drop i xs) (omega (arith, length-drop i xs)) in
    rw whole (little_from-lt 0 n (drop i xs) (bytes_left i xs bytes))
