-- Lines of a list by their numbers: one more of them.
use Rattle.std.proofs.Common.{◌≡◌, ℕ, zero, suc, ◌+◌, List, [], ◌∷◌, ◌++◌, length, ◌<◌, get_or, Some, drop, slice_get, append_assoc, sym, ap, ◌∙◌, arith}
use Rattle.sdv_telling.specs.Statements.{Text}
use Rattle.sdv_telling.specs.Numbered.{numbered}

module _ {X : Type 0} where
  drop_from : (xs : List X) (i : ℕ) (x : X) → slice_get xs i ≡ Some x → drop i xs ≡ x ∷ drop (suc i) xs
  drop_from [] i x is = cc
  drop_from (y ∷ ys) zero x is = let same : y ≡ x = cc in ap (λ (z : X). z ∷ ys) same
  drop_from (y ∷ ys) (suc i) x is = drop_from ys i x is

  drop_at : (xs : List X) (i : ℕ) (x : X) → slice_get xs i ≡ Some x → drop i xs ≡ x ∷ drop (i + 1) xs
  drop_at xs i x is = let on : suc i ≡ i + 1 = omega arith in drop_from xs i x is ∙ ap (λ (n : ℕ). x ∷ drop n xs) on

  -- the item at an index
  pub item_there : (xs : List X) (i : ℕ) (x : X) → i < length xs → x ≡ get_or xs i x → slice_get xs i ≡ Some x
  item_there [] i x lt is = absurd (omega (arith, lt))
  item_there (y ∷ ys) zero x lt is = ap (λ (z : X). Some z) (sym is)
  item_there (y ∷ ys) (suc i) x lt is = item_there ys i x (omega (arith, lt)) is

  -- what is written, and what is still to be, are all, also after one more line
  pub line_added : (line : ℕ → X → Text) (xs : List X) (i : ℕ) (x : X) (old new all : Text) → slice_get xs i ≡ Some x
      → old ++ numbered line i (drop i xs) ≡ all → new ≡ old ++ line i x → new ++ numbered line (i + 1) (drop (i + 1) xs) ≡ all
  line_added line xs i x old new all is so_far added =
      let on : suc i ≡ i + 1 = omega arith in
      ap (λ (t : Text). t ++ numbered line (i + 1) (drop (i + 1) xs)) added
      ∙ append_assoc old (line i x) (numbered line (i + 1) (drop (i + 1) xs))
      ∙ ap (λ (n : ℕ). old ++ (line i x ++ numbered line n (drop (i + 1) xs))) (sym on)
      ∙ ap (λ (ys : List X). old ++ numbered line i ys) (sym (drop_at xs i x is))
      ∙ so_far
