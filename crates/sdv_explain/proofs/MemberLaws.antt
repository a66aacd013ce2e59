-- Elements of lists that are put together.
use Rattle.std.proofs.Common.{◌≡◌, List, [], ◌∷◌, ◌++◌, ◌⊎◌, inl, inr, refl, ap, map}
use Rattle.sdv_card.specs.Lists.{IsOneOf}

pub left_one : {A : Type 0} (xs ys : List A) (y : A) → IsOneOf xs y → IsOneOf (xs ++ ys) y
left_one [] ys y m = absurd m
left_one (x ∷ xs) ys y (inl e) = inl e
left_one (x ∷ xs) ys y (inr m) = inr (left_one xs ys y m)

pub right_one : {A : Type 0} (xs ys : List A) (y : A) → IsOneOf ys y → IsOneOf (xs ++ ys) y
right_one [] ys y m = m
right_one (x ∷ xs) ys y m = inr (right_one xs ys y m)

pub one_of_two : {A : Type 0} (xs ys : List A) (y : A) → IsOneOf (xs ++ ys) y → IsOneOf xs y ⊎ IsOneOf ys y
one_of_two [] ys y m = inr m
one_of_two (x ∷ xs) ys y (inl e) = inl (inl e)
one_of_two (x ∷ xs) ys y (inr m) = elim (one_of_two xs ys y m) [ inl h ↦ inl (inr h) | inr h ↦ inr h ]

pub to_map : {A B : Type 0} (f : A → B) (xs : List A) (x : A) → IsOneOf xs x → IsOneOf (map f xs) (f x)
to_map f [] x m = absurd m
to_map f (y ∷ xs) x (inl e) = inl (ap f e)
to_map f (y ∷ xs) x (inr m) = inr (to_map f xs x m)

pub from_map : {A B : Type 0} (f : A → B) (xs : List A) (y : B) → IsOneOf (map f xs) y → (x : A) × IsOneOf xs x × (f x ≡ y)
from_map f [] y m = absurd m
from_map f (x ∷ xs) y (inl e) = (x, inl refl, e)
from_map f (x ∷ xs) y (inr m) = let r = from_map f xs y m in (r.0, inr r.1, r.2)
