-- What the tests of the code say of the faults.
use Rattle.std.proofs.Common.{◌≡◌, ◌≢◌, Bool, true, false, ℕ, suc, ◌-◌, ◌*◌, ◌/◌, ◌^◌, ◌<◌, ◌≤◌, List, [], ◌∷◌, length, take, drop, get_or, refl, sym, ◌∙◌, ap, arith, bit_and}
use Rattle.std.specs.Prelude.{not, nat_eq}
use mathlib.Core.Bool.{beq}
use Rattle.std.proofs.Math.Nat.{mod-eq_of_lt}
use Rattle.sdv_frames.specs.Bits.{Bits, bits, bits_of, number_of}
use Rattle.sdv_frames.specs.Polynomial.{IsCrc7}
use Rattle.sdv_frames.specs.declared.layout.Layout.{Layout}
use Rattle.sdv_frames.specs.declared.fault.FrameFault.TheVariants.{Length, StartBit, Direction, Index, Crc, EndBit, Reserved}
use Rattle.sdv_frames.specs.Fault.{HasFault, IsFirstFault, HasNoFault, front, seven_of, IndexDiffers, CrcDiffers, ReservedDiffer}
use Rattle.sdv_frames.proofs.BitLaws.{number_of-bits, length-bits_of}
use Rattle.sdv_frames.proofs.CrcLaws.{one_crc7}
use Rattle.sdv_frames.proofs.PartLaws.{bit_at, first_bits, front_bits, seven_bits, end_bit, start_means, end_means, transmission_means, index_means}

-- two numbers of seven bits with the same bits are the same
pub same_seven : (a b : ℕ) → a < 2 ^ 7 → b < 2 ^ 7 → bits 7 a ≡ bits 7 b → a ≡ b
same_seven a b ha hb e =
    sym (mod-eq_of_lt ha) ∙ (sym (number_of-bits 7 a) ∙ (ap number_of e ∙ (number_of-bits 7 b ∙ mod-eq_of_lt hb)))

-- a CRC7 that is another number is not the message's
pub other_crc7 : (message : Bits) (crc seven : ℕ) → crc < 2 ^ 7 → seven < 2 ^ 7 → IsCrc7 message (bits 7 crc) → (crc ≡ seven → ⊥)
    → IsCrc7 message (bits 7 seven) → ⊥
other_crc7 message crc seven hc hs right differ is = differ (same_seven crc seven hc hs (one_crc7 message (bits 7 crc) (bits 7 seven) right is))

-- the length, as bytes and as bits
pub length_differs : (xs : List ℕ) (n : ℕ) → (length xs ≡ n → ⊥) → length (bits_of xs) ≢ 8 * n
length_differs xs n h e = h (omega (arith, length-bits_of xs, e))

pub length_fits : (xs : List ℕ) (n : ℕ) → length xs ≡ n → length (bits_of xs) ≡ 8 * n
length_fits xs n h = length-bits_of xs ∙ ap (λ k. 8 * k) h

-- a test of two truth values
told : (a b : Bool) → not (beq a b) ≡ true → a ≡ not b
told true true e = cc
told true false e = refl
told false true e = refl
told false false e = cc

agreed : (a b : Bool) → not (beq a b) ≡ false → a ≡ not b → ⊥
agreed true true e h = cc
agreed true false e h = cc
agreed false true e h = cc
agreed false false e h = cc

-- one bit is not two
one_bit : {xs : Bits} (a b : Bool) → xs ≡ a ∷ [] → xs ≡ b ∷ [] → a ≡ b
one_bit a b e f = cc

module _ (l : Layout) (xs : List ℕ) (long : 2 ≤ l.length) (fits : length xs ≡ l.length) (bytes : (i : ℕ) → get_or xs i 0 < 256) where
  starts : take 1 (bits_of xs) ≡ bit_at 7 (get_or xs 0 0) ∷ []
  starts = ap (take 1) (first_bits xs (omega arith))

  goes : take 1 (drop 1 (bits_of xs)) ≡ bit_at 6 (get_or xs 0 0) ∷ []
  goes = ap (λ all. take 1 (drop 1 all)) (first_bits xs (omega arith))

  pub indexed : number_of (take 6 (drop 2 (bits_of xs))) ≡ bit_and (get_or xs 0 0) 63
  unfolding bits
  indexed = ap (λ all. number_of (take 6 (drop 2 all))) (first_bits xs (omega arith)) ∙ index_means (get_or xs 0 0)

  fronts : front l (bits_of xs) ≡ bits_of (take (l.length - 1) xs)
  fronts =
      let whole : l.length ≡ suc (l.length - 1) = omega arith in
      ap (λ n. take (8 * n - 8) (bits_of xs)) whole ∙ front_bits xs (l.length - 1) (fits ∙ whole)

  sevens : seven_of l (bits_of xs) ≡ bits 7 (get_or xs (l.length - 1) 0 / 2)
  sevens =
      let whole : l.length ≡ suc (l.length - 1) = omega arith in
      ap (λ n. take 7 (drop (8 * n - 8) (bits_of xs))) whole ∙ seven_bits xs (l.length - 1) (fits ∙ whole)

  ends : drop (8 * l.length - 1) (bits_of xs) ≡ bit_at 0 (get_or xs (l.length - 1) 0) ∷ []
  ends =
      let whole : l.length ≡ suc (l.length - 1) = omega arith in
      ap (λ n. drop (8 * n - 1) (bits_of xs)) whole ∙ end_bit xs (l.length - 1) (fits ∙ whole)

  -- each fault, by what the code tested

  pub no_length : ¬ HasFault l (bits_of xs) Length
  no_length h = h (length_fits xs l.length fits)

  pub start_there : (bit_and (get_or xs 0 0) 128 ≡ 0 → ⊥) → HasFault l (bits_of xs) StartBit
  start_there h = starts ∙ ap (λ b. b ∷ []) ((start_means (get_or xs 0 0) (bytes 0)).1 h)

  pub no_start : bit_and (get_or xs 0 0) 128 ≡ 0 → ¬ HasFault l (bits_of xs) StartBit
  no_start h e = let zero : bit_at 7 (get_or xs 0 0) ≡ false = (start_means (get_or xs 0 0) (bytes 0)).0 h in let one : bit_at 7 (get_or xs 0 0) ≡ true =
      one_bit _ true starts e in cc

  pub direction_there : not (beq (not (nat_eq (bit_and (get_or xs 0 0) 64) 0)) l.from_host) ≡ true → HasFault l (bits_of xs) Direction
  direction_there h = goes ∙ ap (λ b. b ∷ []) (sym (transmission_means (get_or xs 0 0) (bytes 0)) ∙ told _ l.from_host h)

  pub no_direction : not (beq (not (nat_eq (bit_and (get_or xs 0 0) 64) 0)) l.from_host) ≡ false → ¬ HasFault l (bits_of xs) Direction
  no_direction h e = agreed (not (nat_eq (bit_and (get_or xs 0 0) 64) 0)) l.from_host h (transmission_means (get_or xs 0 0) (bytes 0) ∙ one_bit _ _ goes e)

  pub index_there : IndexDiffers l.index (bit_and (get_or xs 0 0) 63) → HasFault l (bits_of xs) Index
  index_there h = rw indexed h

  pub no_index : ¬ IndexDiffers l.index (bit_and (get_or xs 0 0) 63) → ¬ HasFault l (bits_of xs) Index
  no_index h = rw indexed h

  pub crc_there : CrcDiffers l.check (bits_of (take (l.length - 1) xs)) (bits 7 (get_or xs (l.length - 1) 0 / 2)) → HasFault l (bits_of xs) Crc
  crc_there h = rw (fronts, sevens) h

  pub no_crc : ¬ CrcDiffers l.check (bits_of (take (l.length - 1) xs)) (bits 7 (get_or xs (l.length - 1) 0 / 2)) → ¬ HasFault l (bits_of xs) Crc
  no_crc h = rw (fronts, sevens) h

  pub end_there : bit_and (get_or xs (l.length - 1) 0) 1 ≡ 0 → HasFault l (bits_of xs) EndBit
  end_there h = ends ∙ ap (λ b. b ∷ []) ((end_means (get_or xs (l.length - 1) 0) (bytes (l.length - 1))).0 h)

  pub no_end : (bit_and (get_or xs (l.length - 1) 0) 1 ≡ 0 → ⊥) → ¬ HasFault l (bits_of xs) EndBit
  no_end h e =
      let one : bit_at 0 (get_or xs (l.length - 1) 0) ≡ true = (end_means (get_or xs (l.length - 1) 0) (bytes (l.length - 1))).1 h in
      let zero : bit_at 0 (get_or xs (l.length - 1) 0) ≡ false = one_bit _ false ends e in cc

  pub reserved_there : ReservedDiffer l.check (bits 7 (get_or xs (l.length - 1) 0 / 2)) → HasFault l (bits_of xs) Reserved
  reserved_there h = rw sevens h

  pub no_reserved : ¬ ReservedDiffer l.check (bits 7 (get_or xs (l.length - 1) 0 / 2)) → ¬ HasFault l (bits_of xs) Reserved
  no_reserved h = rw sevens h

  -- and the first of them

  pub start_first : (bit_and (get_or xs 0 0) 128 ≡ 0 → ⊥) → IsFirstFault l (bits_of xs) StartBit
  start_first h = record { there = start_there h; first = (no_length, tt) }

  pub direction_first : bit_and (get_or xs 0 0) 128 ≡ 0 → not (beq (not (nat_eq (bit_and (get_or xs 0 0) 64) 0)) l.from_host) ≡ true
      → IsFirstFault l (bits_of xs) Direction
  direction_first s h = record { there = direction_there h; first = (no_length, (no_start s, tt)) }

  pub index_first : bit_and (get_or xs 0 0) 128 ≡ 0 → not (beq (not (nat_eq (bit_and (get_or xs 0 0) 64) 0)) l.from_host) ≡ false →
      IndexDiffers l.index (bit_and (get_or xs 0 0) 63) → IsFirstFault l (bits_of xs) Index
  index_first s d h = record { there = index_there h; first = (no_length, (no_start s, (no_direction d, tt))) }

  pub crc_first : bit_and (get_or xs 0 0) 128 ≡ 0 → not (beq (not (nat_eq (bit_and (get_or xs 0 0) 64) 0)) l.from_host) ≡ false →
      ¬ IndexDiffers l.index (bit_and (get_or xs 0 0) 63) →
      CrcDiffers l.check (bits_of (take (l.length - 1) xs)) (bits 7 (get_or xs (l.length - 1) 0 / 2)) → IsFirstFault l (bits_of xs) Crc
  crc_first s d i h = record { there = crc_there h; first = (no_length, (no_start s, (no_direction d, (no_index i, tt)))) }

  pub end_first : bit_and (get_or xs 0 0) 128 ≡ 0 → not (beq (not (nat_eq (bit_and (get_or xs 0 0) 64) 0)) l.from_host) ≡ false →
      ¬ IndexDiffers l.index (bit_and (get_or xs 0 0) 63) →
      ¬ CrcDiffers l.check (bits_of (take (l.length - 1) xs)) (bits 7 (get_or xs (l.length - 1) 0 / 2)) →
      bit_and (get_or xs (l.length - 1) 0) 1 ≡ 0 → IsFirstFault l (bits_of xs) EndBit
  end_first s d i c h = record { there = end_there h; first = (no_length, (no_start s, (no_direction d, (no_index i, (no_crc c, tt))))) }

  pub reserved_first : bit_and (get_or xs 0 0) 128 ≡ 0 → not (beq (not (nat_eq (bit_and (get_or xs 0 0) 64) 0)) l.from_host) ≡ false →
      ¬ IndexDiffers l.index (bit_and (get_or xs 0 0) 63) →
      ¬ CrcDiffers l.check (bits_of (take (l.length - 1) xs)) (bits 7 (get_or xs (l.length - 1) 0 / 2)) →
      (bit_and (get_or xs (l.length - 1) 0) 1 ≡ 0 → ⊥) →
      ReservedDiffer l.check (bits 7 (get_or xs (l.length - 1) 0 / 2)) → IsFirstFault l (bits_of xs) Reserved
  reserved_first s d i c e h = record {
    there = reserved_there h;
    first = (
      no_length,
      (no_start s, (no_direction d, (no_index i, (no_crc c, (no_end e, tt))))),
    );
  }

  pub none_found : bit_and (get_or xs 0 0) 128 ≡ 0 → not (beq (not (nat_eq (bit_and (get_or xs 0 0) 64) 0)) l.from_host) ≡ false →
      ¬ IndexDiffers l.index (bit_and (get_or xs 0 0) 63) →
      ¬ CrcDiffers l.check (bits_of (take (l.length - 1) xs)) (bits 7 (get_or xs (l.length - 1) 0 / 2)) →
      (bit_and (get_or xs (l.length - 1) 0) 1 ≡ 0 → ⊥) →
      ¬ ReservedDiffer l.check (bits 7 (get_or xs (l.length - 1) 0 / 2)) → HasNoFault l (bits_of xs)
  none_found s d i c e r = (no_length, (no_start s, (no_direction d, (no_index i, (no_crc c, (no_end e, (no_reserved r, tt)))))))
