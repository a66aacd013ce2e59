-- What is among the elements of a list.
use Rattle.std.specs.Prelude.{◌≡◌, List, [], ◌∷◌, ◌++◌, ◌⊎◌, Bool, true, false, ◌&&◌}

-- x is one of the list
abbrev pub IsOneOf : {A : Type 0} → List A → A → Type 0
IsOneOf [] x = ⊥
IsOneOf (y ∷ ys) x = (y ≡ x) ⊎ IsOneOf ys x

-- x may be what comes: it is one of the list of all that may
pub record May {A : Type 0} (xs : List A) (x : A) : Type 0 where
  pub one : IsOneOf xs x

-- for each x of the list, all that f makes of it
abbrev pub each : {A B : Type 0} → List A → (A → List B) → List B
each [] f = []
each (x ∷ xs) f = f x ++ each xs f

-- the test holds of every element
abbrev pub all : {A : Type 0} → (A → Bool) → List A → Bool
all p [] = true
all p (x ∷ xs) = p x && all p xs

-- the list has an element
abbrev pub has_some : {A : Type 0} → List A → Bool
has_some [] = false
has_some (x ∷ xs) = true

-- no element stands twice in the list
abbrev pub AreDistinct : {A : Type 0} → List A → Type 0
AreDistinct [] = Unit {0}
AreDistinct (x ∷ xs) = (May xs x → ⊥) × AreDistinct xs
