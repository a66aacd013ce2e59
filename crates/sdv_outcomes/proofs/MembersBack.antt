-- Each element of an appended, mapped or filtered list is from one of the lists that made it.
use Rattle.std.proofs.Common.{◌≡◌, List, [], ◌∷◌, ◌++◌, ◌⊎◌, inl, inr, refl, subst, Bool, true, false, map, cond}
use Rattle.std.specs.Prelude.{filter}
use Rattle.sdv_card.specs.Lists.{May, IsOneOf, each}

mapped_back : {A B : Type 0} → (f : A → B) (xs : List A) (y : B) → IsOneOf (map f xs) y → (x : A) × IsOneOf xs x × (f x ≡ y)
mapped_back f [] y m = absurd m
mapped_back f (x ∷ xs) y (inl e) = (x, inl refl, e)
mapped_back f (x ∷ xs) y (inr m) = let r = mapped_back f xs y m in (r.0, inr r.1, r.2)

append_back : {A : Type 0} → (xs ys : List A) (x : A) → IsOneOf (xs ++ ys) x → IsOneOf xs x ⊎ IsOneOf ys x
append_back [] ys x m = inr m
append_back (y ∷ xs) ys x (inl e) = inl (inl e)
append_back (y ∷ xs) ys x (inr m) = elim (append_back xs ys x m) [
  | inl a ↦ inl (inr a)
  | inr b ↦ inr b
]

each_back : {A B : Type 0} → (xs : List A) (f : A → List B) (y : B) → IsOneOf (each xs f) y → (x : A) × IsOneOf xs x × IsOneOf (f x) y
each_back [] f y m = absurd m
each_back (x ∷ xs) f y m = elim (append_back (f x) (each xs f) y m) [
  | inl a ↦ (x, inl refl, a)
  | inr b ↦ let r = each_back xs f y b in (r.0, inr r.1, r.2)
]

cond_back : {A : Type 0} → (b : Bool) (z : A) (ys : List A) (x : A) → IsOneOf (cond b (z ∷ ys) ys) x → ((b ≡ true) × (z ≡ x)) ⊎ IsOneOf ys x
cond_back true z ys x (inl e) = inl (refl, e)
cond_back true z ys x (inr m) = inr m
cond_back false z ys x m = inr m

filtered_back : {A : Type 0} → (p : A → Bool) (xs : List A) (x : A) → IsOneOf (filter p xs) x → IsOneOf xs x × (p x ≡ true)
filtered_back p [] x m = absurd m
filtered_back p (z ∷ xs) x m = elim (cond_back (p z) z (filter p xs) x m) [
  | inl e ↦ (inl e.1, subst (λ v. p v ≡ true) e.1 e.0)
  | inr n ↦ let r = filtered_back p xs x n in (inr r.0, r.1)
]

pub May-map_back : {A B : Type 0} (f : A → B) (xs : List A) {y : B} → May (map f xs) y → (x : A) × May xs x × (f x ≡ y)
May-map_back f xs m = let r = mapped_back f xs _ m.one in (r.0, record { one = r.1 }, r.2)

pub May-append_back : {A : Type 0} (xs ys : List A) {x : A} → May (xs ++ ys) x → May xs x ⊎ May ys x
May-append_back xs ys m = elim (append_back xs ys _ m.one) [
  | inl a ↦ inl (record { one = a })
  | inr b ↦ inr (record { one = b })
]

pub May-each_back : {A B : Type 0} (xs : List A) (f : A → List B) {y : B} → May (each xs f) y → (x : A) × May xs x × May (f x) y
May-each_back xs f m = let r = each_back xs f _ m.one in (r.0, record { one = r.1 }, record { one = r.2 })

pub May-filter_back : {A : Type 0} (p : A → Bool) (xs : List A) {x : A} → May (filter p xs) x → May xs x × (p x ≡ true)
May-filter_back p xs m = let r = filtered_back p xs _ m.one in (record { one = r.0 }, r.1)

-- the first, or one of the rest
pub May-cons_back : {A : Type 0} {y x : A} {ys : List A} → May (y ∷ ys) x → (y ≡ x) ⊎ May ys x
May-cons_back m = elim m.one [
  | inl e ↦ inl e
  | inr n ↦ inr (record { one = n })
]

pub none_back : {A : Type 0} {x : A} → May [] x → ⊥
none_back m = m.one
