-- What the test of the seven bits before the end bit says.
use Rattle.std.proofs.Common.{◌≡◌, ◌≢◌, ℕ, ◌-◌, ◌^◌, ◌<◌, ◌≤◌, List, [], ◌∷◌, length, take, drop, sym, ◌∙◌, ap, arith, subst, inl, inr}
use Rattle.std.specs.Prelude.{not, nat_eq, MatchBool}
use Rattle.std.proofs.Math.Seq.{take-length}
use borrow.Author.Tests.{eq-eqb, ne_eqb}
use Rattle.std.proofs.lemmas.Bool.{cases_eq}
use Rattle.sdv_frames.specs.Bits.{Bits, bits, bits_of}
use Rattle.sdv_frames.specs.Polynomial.{IsCrc7}
use Rattle.sdv_frames.specs.Frame.{all_ones}
use Rattle.sdv_frames.proofs.FaultLaws.{other_crc7, same_seven}

-- a test whether two numbers differ
by_test : {P : Type 0} (a b : ℕ) → ((a ≡ b → ⊥) → P) → (a ≡ b → ¬ P) → MatchBool (not (nat_eq a b)) P (¬ P)
by_test {P} a b differ same =
    elim (cases_eq a b) [
      | inl e ↦ subst (λ t. MatchBool (not t) P (¬ P)) (sym (eq-eqb a b e)) (same e)
      | inr n ↦ subst (λ t. MatchBool (not t) P (¬ P)) (sym (ne_eqb a b n)) (differ n)
    ]

pub crc_by_test : (message : Bits) (crc seven : ℕ) → crc < 2 ^ 7 → seven < 2 ^ 7 → IsCrc7 message (bits 7 crc) →
    MatchBool (not (nat_eq crc seven)) (¬ IsCrc7 message (bits 7 seven)) (¬ (¬ IsCrc7 message (bits 7 seven)))
crc_by_test message crc seven hc hs right =
    by_test crc seven (other_crc7 message crc seven hc hs right) (λ e other. other (subst (λ n. IsCrc7 message (bits 7 n)) e right))

rest_bits : (front : List ℕ) → 1 ≤ length front → bits_of (take (length front - 1) (drop 1 front)) ≡ drop 8 (bits_of front)
unfolding bits bits_of
rest_bits [] h = absurd (omega arith)
rest_bits (x ∷ xs) h =
    let one_less : length (x ∷ xs) - 1 ≡ length xs = omega arith in
    ap (λ n. bits_of (take n xs)) one_less ∙ ap bits_of (take-length xs)

pub contents_by_test : (front : List ℕ) (crc seven : ℕ) → 1 ≤ length front → crc < 2 ^ 7 → seven < 2 ^ 7
    → IsCrc7 (bits_of (take (length front - 1) (drop 1 front))) (bits 7 crc) →
    MatchBool (not (nat_eq crc seven)) (¬ IsCrc7 (drop 8 (bits_of front)) (bits 7 seven)) (¬ (¬ IsCrc7 (drop 8 (bits_of front)) (bits 7 seven)))
contents_by_test front crc seven h hc hs right = crc_by_test (drop 8 (bits_of front)) crc seven hc hs
    (subst (λ message. IsCrc7 message (bits 7 crc)) (rest_bits front h) right)

pub reserved_by_test : (seven : ℕ) → seven < 2 ^ 7 → MatchBool (not (nat_eq seven 127)) (bits 7 seven ≢ all_ones) (¬ (bits 7 seven ≢ all_ones))
unfolding bits
reserved_by_test seven h =
    by_test seven 127 (λ differ e. differ (same_seven seven 127 h (omega arith) e)) (λ e differ. differ (ap (bits 7) e))
