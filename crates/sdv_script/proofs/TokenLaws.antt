-- Runs of bytes are ASCII, and numbers may be capped on the way.
use Rattle.std.proofs.Common.{◌≡◌, ℕ, suc, ◌+◌, ◌*◌, ◌^◌, ◌<◌, ◌≤◌, true, List, [], ◌∷◌, length, take, drop, get_or, min, ap, arith, inl, inr, add-one, drop-cons}
use Rattle.std.specs.Str.{IsAscii}
use Rattle.std.proofs.Math.Nat.{mul-le-mul_left}
use Rattle.std.proofs.Math.ListN.{drop_of_length-le}
use Rattle.std.proofs.lemmas.List.{get_or-take, get_or_past, length-take}
use Rattle.std.proofs.lemmas.List.Folds.{length-prefix_len}
use Rattle.std.proofs.lemmas.List.Sums.{prefix_len_passes}
use Rattle.std.proofs.lemmas.Bool.{cases_lt}
use Rattle.std.proofs.lemmas.Bool.Decides.{nat_tests}
use Rattle.sdv_script.specs.Tokens.{goes_on, number_after, digit_value, run}

capped_step : (base d x y cap : ℕ) → 1 ≤ base → min x cap ≡ min y cap → min (x * base + d) cap ≡ min (y * base + d) cap
capped_step base d x y cap b e =
    elim (cases_lt x cap) [
      | inl lt ↦ ap (λ n. min (n * base + d) cap) (omega arith)
      | inr le ↦
          let x-more : x * 1 ≤ x * base = mul-le-mul_left x b in
          let y-more : y * 1 ≤ y * base = mul-le-mul_left y b in
          omega (arith, x-more, y-more)
    ]

pub capped : (base x y cap : ℕ) (bs : List ℕ) → 1 ≤ base → min x cap ≡ min y cap → min (number_after base x bs) cap ≡ min (number_after base y bs) cap
unfolding number_after
capped base x y cap [] b e = e
capped base x y cap (d ∷ bs) b e =
    capped base (x * base + digit_value d) (y * base + digit_value d) cap bs b (capped_step base (digit_value d) x y cap b e)

-- one more digit
pub capped_more : (base before value i : ℕ) (digits : List ℕ) → 1 ≤ base → i < length digits
    → value ≡ min (before * base + digit_value (get_or digits i 0)) (2 ^ 40 + 1)
    → min (number_after base value (drop (i + 1) digits)) (2 ^ 40 + 1) ≡ min (number_after base before (drop i digits)) (2 ^ 40 + 1)
unfolding number_after
capped_more base before value i digits b lt e =
    rw (add-one, drop-cons digits i 0) (capped base value (before * base + digit_value (get_or digits i 0)) (2 ^ 40 + 1) (drop (suc i) digits) b (omega arith))

-- no more digits
pub capped_end : (base before i : ℕ) (digits : List ℕ) → length digits ≤ i → before ≤ 2 ^ 40 + 1
    → min (number_after base before (drop i digits)) (2 ^ 40 + 1) ≡ before
unfolding number_after
capped_end base before i digits le small = rw (drop_of_length-le digits le) (omega arith)

below_128 : (b : ℕ) → goes_on b ≡ true → b < 128
below_128 b e = grind (arith, nat_tests)

-- what a word may consist of is ASCII
pub ascii_run : (bs : List ℕ) → IsAscii (take (run goes_on bs) bs)
ascii_run bs i =
    let same = length-prefix_len goes_on bs in
    elim (cases_lt i (run goes_on bs)) [
      | inl lt ↦ rw (get_or-take (run goes_on bs) bs i 0 lt) (below_128 (get_or bs i 0) (prefix_len_passes goes_on bs i 0 (omega (arith, same))))
      | inr le ↦ rw (get_or_past (take (run goes_on bs) bs) i 0 (omega (arith, length-take (run goes_on bs) bs))) (omega arith)
    ]
