-- Walking a list from the front: which elements are left, and which are members.
use Rattle.std.proofs.Common.{◌≡◌, ℕ, zero, suc, ◌+◌, ◌<◌, inl, inr, refl, sym, ap, ◌∙◌, subst, arith, List, [], ◌∷◌, ◌++◌, Bool, true, false, ◌||◌, drop, take, get_or, length, slice_get, Option, Some}
use Rattle.std.specs.Prelude.{◌⊎◌, if◌then◌else◌}
use Rattle.std.specs.List.{list_any}
use Rattle.sdv_card.specs.Lists.{IsOneOf}
use Rattle.sdv_graph.specs.Path.{Point}
use Rattle.sdv_review.specs.declared.finding.Name.{Name}
use Rattle.sdv_review.specs.Names.{reads, is_read, sets, first_from}

module _ {X : Type 0} where
  drop_from : (xs : List X) (i : ℕ) (x : X) → slice_get xs i ≡ Some x → drop i xs ≡ x ∷ drop (suc i) xs
  drop_from [] i x is = cc
  drop_from (y ∷ ys) zero x is = let same : y ≡ x = cc in ap (λ (z : X). z ∷ ys) same
  drop_from (y ∷ ys) (suc i) x is = drop_from ys i x is

  pub drop_at : (xs : List X) (i : ℕ) (x : X) → slice_get xs i ≡ Some x → drop i xs ≡ x ∷ drop (i + 1) xs
  drop_at xs i x is = let on : suc i ≡ i + 1 = omega arith in drop_from xs i x is ∙ ap (λ (n : ℕ). x ∷ drop n xs) on

  -- AMONG THE ELEMENTS

  pub in_front : (xs ys : List X) (x : X) → IsOneOf xs x → IsOneOf (xs ++ ys) x
  in_front [] ys x m = absurd m
  in_front (z ∷ xs) ys x (inl e) = inl e
  in_front (z ∷ xs) ys x (inr m) = inr (in_front xs ys x m)

  pub behind : (xs ys : List X) (x : X) → IsOneOf ys x → IsOneOf (xs ++ ys) x
  behind [] ys x m = m
  behind (z ∷ xs) ys x m = inr (behind xs ys x m)

  pub in_either : (P : X → Type 0) (xs ys : List X) → ((x : X) → IsOneOf xs x → P x) → ((x : X) → IsOneOf ys x → P x) → (x : X)
      → IsOneOf (xs ++ ys) x → P x
  in_either P [] ys f g x m = g x m
  in_either P (z ∷ xs) ys f g x (inl e) = f x (inl e)
  in_either P (z ∷ xs) ys f g x (inr m) = in_either P xs ys (λ y n. f y (inr n)) g x m

  -- an element that passes a test
  pub one_passes : (p : X → Bool) (xs : List X) (x : X) → IsOneOf xs x → p x ≡ true → list_any p xs ≡ true
  one_passes p [] x m e = absurd m
  one_passes p (y ∷ ys) x (inl same) e =
      let here : p y ≡ true = ap p same ∙ e in
      ap (λ (b : Bool). b || list_any p ys) here
  one_passes p (y ∷ ys) x (inr m) e = or_true (p y) (list_any p ys) (one_passes p ys x m e)
    where
      or_true : (a b : Bool) → b ≡ true → (a || b) ≡ true
      or_true true b e = refl
      or_true false b e = e

  pub none_passes : (p : X → Bool) (xs : List X) (x : X) → IsOneOf xs x → list_any p xs ≡ false → p x ≡ false
  none_passes p xs x m none = off (p x) (λ e. one_passes p xs x m e)
    where
      off : (b : Bool) → (b ≡ true → list_any p xs ≡ true) → b ≡ false
      off true f = let g : true ≡ false = sym (f refl) ∙ none in cc
      off false f = refl

-- NAMES

-- a statement that reads the name
pub read_here : (name : Name) (points : List Point) (i : ℕ) (p : Point) (all : Bool) → slice_get points i ≡ Some p → reads name p.action ≡ true
    → is_read name (drop i points) ≡ all → true ≡ all
read_here name points i p all is e so_far =
    sym (ap (is_read name) (drop_at points i p is) ∙ ap (λ (b : Bool). b || is_read name (drop (i + 1) points)) e) ∙ so_far

pub read_later : (name : Name) (points : List Point) (i : ℕ) (p : Point) (all : Bool) → slice_get points i ≡ Some p → reads name p.action ≡ false
    → is_read name (drop i points) ≡ all → is_read name (drop (i + 1) points) ≡ all
read_later name points i p all is e so_far =
    sym (ap (is_read name) (drop_at points i p is) ∙ ap (λ (b : Bool). b || is_read name (drop (i + 1) points)) e) ∙ so_far

-- a statement that sets the name
pub set_here : (name : Name) (points : List Point) (i : ℕ) (p : Point) (all : Option ℕ) → slice_get points i ≡ Some p → sets name p.action ≡ true
    → first_from name i (drop i points) ≡ all → Some i ≡ all
set_here name points i p all is e so_far =
    sym (ap (first_from name i) (drop_at points i p is) ∙ ap (λ (b : Bool). if b then Some i else first_from name (suc i) (drop (i + 1) points)) e) ∙ so_far

pub set_later : (name : Name) (points : List Point) (i : ℕ) (p : Point) (all : Option ℕ) → slice_get points i ≡ Some p → sets name p.action ≡ false
    → first_from name i (drop i points) ≡ all → first_from name (i + 1) (drop (i + 1) points) ≡ all
set_later name points i p all is e so_far =
    let on : suc i ≡ i + 1 = omega arith in
    ap (λ (n : ℕ). first_from name n (drop (i + 1) points)) (sym on)
    ∙ (sym (ap (first_from name i) (drop_at points i p is) ∙ ap (λ (b : Bool). if b then Some i else first_from name (suc i) (drop (i + 1) points)) e) ∙ so_far)

-- THE ELEMENT IN A PLACE

pub one_at : {X : Type 0} (xs : List X) (i : ℕ) (d x : X) → i < length xs → get_or xs i d ≡ x → IsOneOf xs x
one_at [] i d x lt e = absurd (omega (arith, lt))
one_at (y ∷ ys) zero d x lt e = inl e
one_at (y ∷ ys) (suc i) d x lt e = inr (one_at ys i d x (omega (arith, lt)) e)

-- among the first ones and one more
pub one_further : {X : Type 0} (xs : List X) (i : ℕ) (d x : X) → i < length xs → IsOneOf (take (i + 1) xs) x → IsOneOf (take i xs) x ⊎ (get_or xs i d ≡ x)
one_further xs i d x lt one = let on : suc i ≡ i + 1 = omega arith in go xs i lt (subst (λ (n : ℕ). IsOneOf (take n xs) x) (sym on) one)
  where
    go : (xs : List _) (i : ℕ) → i < length xs → IsOneOf (take (suc i) xs) x → IsOneOf (take i xs) x ⊎ (get_or xs i d ≡ x)
    go [] i lt m = absurd (omega (arith, lt))
    go (y ∷ ys) zero lt (inl e) = inr e
    go (y ∷ ys) zero lt (inr m) = absurd m
    go (y ∷ ys) (suc i) lt (inl e) = inl (inl e)
    go (y ∷ ys) (suc i) lt (inr m) =
        elim (go ys i (omega (arith, lt)) m) [
          | inl n ↦ inl (inr n)
          | inr e ↦ inr e
        ]
