-- An index of an order goes behind the others.
use Rattle.std.proofs.Common.{◌≡◌, ℕ, zero, suc, ◌<◌, ◌≤◌, ◌+◌, inl, inr, refl, sym, ap, ◌∙◌, List, [], ◌∷◌, ◌++◌, length, get_or, Some, None, Bool, true, false, not, cond, eqb, ltb, filter, count_by, remove, position, arith, length-append, zero-add}
use Rattle.std.specs.List.{position_or_len}
use Rattle.std.proofs.lemmas.List.Elements.{All-append, All-push, All-take, All-drop}
use Rattle.std.proofs.lemmas.List.Quantifiers.{position-Some}
use Rattle.std.proofs.lemmas.List.Sums.{fails_before_first, sum_by-append, sum_by_push}
use Rattle.std.proofs.lemmas.Bool.{cases_Bool, cases_eq, eq-eqb, ne_eqb, eqb-true, ltb-false}
use Rattle.sdv_image.specs.Orders.{IsOrder, used}

-- how much one element counts
abbrev weight : (ℕ → Bool) → ℕ → ℕ
weight p x = cond (p x) 1 0

counted : (p : ℕ → Bool) (x : ℕ) → p x ≡ true → weight p x ≡ 1
counted p x e = ap (λ (t : Bool). let n : ℕ = cond t 1 0 in n) e

not_counted : (p : ℕ → Bool) (x : ℕ) → p x ≡ false → weight p x ≡ 0
not_counted p x e = ap (λ (t : Bool). let n : ℕ = cond t 1 0 in n) e

first_counts : (p : ℕ → Bool) (x : ℕ) (xs : List ℕ) → count_by p (x ∷ xs) ≡ weight p x + count_by p xs
first_counts p x xs = sum_by-append (weight p) (x ∷ []) xs ∙ ap (λ (n : ℕ). n + count_by p xs) (zero-add (weight p x))

-- where none passes
none_left : (p : ℕ → Bool) (xs : List ℕ) → count_by p xs ≡ 0 → filter (λ x. not (p x)) xs ≡ xs
none_left p [] h = refl
none_left p (x ∷ xs) h =
    let c = first_counts p x xs in
    elim (cases_Bool (p x)) [
      | inl t ↦ absurd (let e = counted p x t in omega (arith, c, e, h))
      | inr f ↦ let e = not_counted p x f in
          ap (λ (t : Bool). cond (not t) (x ∷ filter (λ x. not (p x)) xs) (filter (λ x. not (p x)) xs)) f
          ∙ ap (λ (l : List ℕ). x ∷ l) (none_left p xs (omega (arith, c, e, h)))
    ]

some_counted : (p : ℕ → Bool) (xs : List ℕ) (i : ℕ) → i < length xs → p (get_or xs i 0) ≡ true → 0 < count_by p xs
some_counted p [] i h t = absurd (omega (arith, h))
some_counted p (x ∷ xs) zero h t = let c = first_counts p x xs in let e = counted p x t in omega (arith, c, e)
some_counted p (x ∷ xs) (suc i) h t = let c = first_counts p x xs in let l = some_counted p xs i (omega (arith, h)) t in omega (arith, c, l)

all_fail : (p : ℕ → Bool) (xs : List ℕ) → ((i : ℕ) → i < length xs → p (get_or xs i 0) ≡ false) → count_by p xs ≡ 0
all_fail p [] f = refl
all_fail p (x ∷ xs) f =
    let c = first_counts p x xs in
    let e = not_counted p x (f zero (omega arith)) in
    let l = all_fail p xs (λ i h. f (suc i) (omega (arith, h))) in
    omega (arith, c, e, l)

-- the only one that passes is removed
removed : (p : ℕ → Bool) (xs : List ℕ) (i : ℕ) → i < length xs → p (get_or xs i 0) ≡ true → count_by p xs ≡ 1 → remove xs i ≡ filter (λ x. not (p x)) xs
removed p [] i h t c = absurd (omega (arith, h))
removed p (x ∷ xs) zero h t c =
    let n = first_counts p x xs in
    let e = counted p x t in
    sym (ap (λ (b : Bool). cond (not b) (x ∷ filter (λ x. not (p x)) xs) (filter (λ x. not (p x)) xs)) t ∙ none_left p xs (omega (arith, n, e, c)))
removed p (x ∷ xs) (suc i) h t c =
    let n = first_counts p x xs in
    elim (cases_Bool (p x)) [
      | inl y ↦ absurd (let e = counted p x y in let l = some_counted p xs i (omega (arith, h)) t in omega (arith, n, e, l, c))
      | inr y ↦ let e = not_counted p x y in
          ap (λ (l : List ℕ). x ∷ l) (removed p xs i (omega (arith, h)) t (omega (arith, n, e, c)))
          ∙ sym (ap (λ (b : Bool). cond (not b) (x ∷ filter (λ x. not (p x)) xs) (filter (λ x. not (p x)) xs)) y)
    ]

-- COUNTS where one is removed, and where one is pushed
removed_count : (p : ℕ → Bool) (xs : List ℕ) (i : ℕ) → i < length xs → count_by p (remove xs i) + weight p (get_or xs i 0) ≡ count_by p xs
removed_count p [] i h = absurd (omega (arith, h))
removed_count p (x ∷ xs) zero h = let c = first_counts p x xs in omega (arith, c)
removed_count p (x ∷ xs) (suc i) h =
    let c = first_counts p x xs in
    let d = first_counts p x (remove xs i) in
    let l = removed_count p xs i (omega (arith, h)) in
    omega (arith, c, d, l)

pub pushed_count : (p : ℕ → Bool) (xs : List ℕ) (y : ℕ) → count_by p (xs ++ y ∷ []) ≡ count_by p xs + weight p y
pushed_count p xs y = sum_by_push (weight p) xs y

removed_length : (xs : List ℕ) (i : ℕ) → i < length xs → length (remove xs i) + 1 ≡ length xs
removed_length [] i h = absurd (omega (arith, h))
removed_length (x ∷ xs) zero h = omega arith
removed_length (x ∷ xs) (suc i) h = let l = removed_length xs i (omega (arith, h)) in omega (arith, l)

-- A USE of an index
module _ (xs : List ℕ) (index : ℕ) (o : IsOrder xs) (h : index < 16) where
  module _ (i : ℕ) (at : position (λ other. eqb other index) xs ≡ Some i) where
    within : i < length xs
    within = (position-Some (λ other. eqb other index) xs i 0 at).0

    passes : eqb (get_or xs i 0) index ≡ true
    passes = (position-Some (λ other. eqb other index) xs i 0 at).1

    pub moved_behind : remove xs i ++ index ∷ [] ≡ used xs index
    moved_behind = ap (λ (l : List ℕ). l ++ index ∷ []) (removed (λ other. eqb other index) xs i within passes (o.once index h))

    pub still_order : IsOrder (remove xs i ++ index ∷ [])
    still_order = record {
      count = let n = removed_length xs i within in let m = length-append (remove xs i) (index ∷ []) in let c = o.count in omega (arith, n, m, c);
      known =
          let P : ℕ → Type 0 = λ j. j < 16 in
          All-push P _ _ (All-append P _ _ (All-take P i xs o.known) (All-drop P (suc i) xs o.known)) h;
      once = λ j k.
          let q : ℕ → Bool = λ other. eqb other j in
          let same : get_or xs i 0 ≡ index = eqb-true (get_or xs i 0) index passes in
          let n = removed_count q xs i within in
          let m : weight q (get_or xs i 0) ≡ weight q index = ap (weight q) same in
          let l = pushed_count q (remove xs i) index in
          let c = o.once j k in
          omega (arith, n, m, l, c);
    }

  pub is_there : position (λ other. eqb other index) xs ≡ None → ⊥
  is_there e =
      let zero_of : count_by (λ other. eqb other index) xs ≡ 0 = all_fail (λ other. eqb other index) xs fails in
      let one = o.once index h in
      omega (arith, zero_of, one)
    where
      past : (t : Bool) → t ≡ ltb (position_or_len (λ other. eqb other index) xs) (length xs) →
          cond t (Some (position_or_len (λ other. eqb other index) xs)) None ≡ None → t ≡ false
      past true s f = let clash : Some (position_or_len (λ other. eqb other index) xs) ≡ None = f in cc
      past false s f = refl

      fails : (i : ℕ) → i < length xs → eqb (get_or xs i 0) index ≡ false
      fails i l = fails_before_first (λ other. eqb other index) xs i 0 (let p = ltb-false _ _ (past _ refl e) in omega (arith, l, p))

-- ALL INDEXES in their order, one pushed after another
push_counts : (xs ys : List ℕ) (n i : ℕ) → ys ≡ xs ++ n ∷ [] →
    count_by (λ other. eqb other i) ys ≡ count_by (λ other. eqb other i) xs + weight (λ other. eqb other i) n
push_counts xs ys n i e = ap (λ (l : List ℕ). count_by (λ other. eqb other i) l) e ∙ pushed_count (λ other. eqb other i) xs n

pub once_more : (xs ys : List ℕ) (n : ℕ) → ys ≡ xs ++ n ∷ [] → ((i : ℕ) → i < n → count_by (λ other. eqb other i) xs ≡ 1) →
    ((i : ℕ) → n ≤ i → count_by (λ other. eqb other i) xs ≡ 0) →
    (i : ℕ) → i < n + 1 → count_by (λ other. eqb other i) ys ≡ 1
once_more xs ys n e once none i h = elim (cases_eq n i) [ inl s ↦ here s | inr o ↦ there o ]
  where
    here : n ≡ i → count_by (λ other. eqb other i) ys ≡ 1
    here s =
        let c = push_counts xs ys n i e in
        let w = counted (λ other. eqb other i) n (eq-eqb n i s) in
        let z = none i (omega (arith, s)) in
        omega (arith, c, w, z)

    there : (n ≡ i → ⊥) → count_by (λ other. eqb other i) ys ≡ 1
    there o =
        let c = push_counts xs ys n i e in
        let w = not_counted (λ other. eqb other i) n (ne_eqb n i o) in
        let below : i < n = let ne : n ≡ i → ⊥ = o in omega (arith, h, ne) in
        let z = once i below in
        omega (arith, c, w, z)

pub none_more : (xs ys : List ℕ) (n : ℕ) → ys ≡ xs ++ n ∷ [] → ((i : ℕ) → n ≤ i → count_by (λ other. eqb other i) xs ≡ 0) →
    (i : ℕ) → n + 1 ≤ i → count_by (λ other. eqb other i) ys ≡ 0
none_more xs ys n e none i h =
    let c = push_counts xs ys n i e in
    let other : n ≡ i → ⊥ = λ (s : n ≡ i). omega (arith, s, h) in
    let w = not_counted (λ other. eqb other i) n (ne_eqb n i other) in
    let z = none i (omega (arith, h)) in
    omega (arith, c, w, z)
