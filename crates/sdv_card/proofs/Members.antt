-- Elements of a list stay elements of what is appended, mapped, filtered and looked up.
use Rattle.std.proofs.Common.{◌≡◌, List, [], ◌∷◌, ◌++◌, ◌⊎◌, inl, inr, refl, ap, subst, sym, ◌∙◌, Bool, true, false, map, ◌==◌, ◌&&◌, cond, eqb-true, if◌then◌else◌, rules}
use Rattle.std.specs.Prelude.{filter}
use Rattle.sdv_card.specs.declared.state.State.{State}
use Rattle.sdv_card.specs.declared.state.State.TheVariants.{Idle, Ready, Ident, Stby, Tran, Data, Rcv, Prg, Dis}
use Rattle.sdv_card.specs.declared.command.Move.{Move}
use Rattle.sdv_card.specs.Lists.{May, IsOneOf, each, all, has_some}
use Rattle.sdv_card.specs.States.{state_number}
use Rattle.sdv_card.specs.StateTable.{◌to◌, targets}
use Rattle.sdv_card.specs.Code.{state_of}

pub here : {A : Type 0} {y x : A} {ys : List A} → y ≡ x → May (y ∷ ys) x
here e = record { one = inl e }

pub there : {A : Type 0} {y x : A} {ys : List A} → May ys x → May (y ∷ ys) x
there m = record { one = inr m.one }

pub only : {A : Type 0} {y x : A} → May (y ∷ []) x → y ≡ x
only {y = y} {x = x} m = go y x m.one
  where
    go : {A : Type 0} → (y x : A) → IsOneOf (y ∷ []) x → y ≡ x
    go y x (inl e) = e
    go y x (inr e) = absurd e

append_left : {A : Type 0} → (xs ys : List A) (x : A) → IsOneOf xs x → IsOneOf (xs ++ ys) x
append_left [] ys x m = absurd m
append_left (y ∷ xs) ys x (inl e) = inl e
append_left (y ∷ xs) ys x (inr m) = inr (append_left xs ys x m)

append_right : {A : Type 0} → (xs ys : List A) (x : A) → IsOneOf ys x → IsOneOf (xs ++ ys) x
append_right [] ys x m = m
append_right (y ∷ xs) ys x m = inr (append_right xs ys x m)

mapped : {A B : Type 0} → (f : A → B) (xs : List A) (x : A) → IsOneOf xs x → IsOneOf (map f xs) (f x)
mapped f [] x m = absurd m
mapped f (y ∷ xs) x (inl e) = inl (ap f e)
mapped f (y ∷ xs) x (inr m) = inr (mapped f xs x m)

each_of : {A B : Type 0} → (xs : List A) (f : A → List B) (x : A) (y : B) → IsOneOf xs x → IsOneOf (f x) y → IsOneOf (each xs f) y
each_of [] f x y m n = absurd m
each_of (z ∷ xs) f x y (inl e) n = append_left (f z) (each xs f) y (subst (λ v. IsOneOf (f v) y) (sym e) n)
each_of (z ∷ xs) f x y (inr m) n = append_right (f z) (each xs f) y (each_of xs f x y m n)

pub May-append_left : {A : Type 0} {xs : List A} {x : A} (ys : List A) → May xs x → May (xs ++ ys) x
May-append_left ys m = record { one = append_left _ _ _ m.one }

pub May-append_right : {A : Type 0} {ys : List A} {x : A} (xs : List A) → May ys x → May (xs ++ ys) x
May-append_right xs m = record { one = append_right xs _ _ m.one }

pub May-map : {A B : Type 0} {xs : List A} {x : A} (f : A → B) → May xs x → May (map f xs) (f x)
May-map f m = record { one = mapped f _ _ m.one }

pub May-each : {A B : Type 0} {xs : List A} (f : A → List B) (x : A) {y : B} → May xs x → May (f x) y → May (each xs f) y
May-each f x m n = record { one = each_of _ f x _ m.one n.one }

pub May-either : (b : Bool) → May (false ∷ true ∷ []) b
May-either true = there (here refl)
May-either false = here refl

pub same_number : (s : State) → (state_number s == state_number s) ≡ true
same_number s = search rules

may_if : (b : Bool) (x : State) (rest : List State) (y : State) → IsOneOf rest y → IsOneOf (if b then x ∷ rest else rest) y
may_if true x rest y m = inr m
may_if false x rest y m = m

may_hit : (b : Bool) (x : State) (rest : List State) → b ≡ true → IsOneOf (if b then x ∷ rest else rest) x
may_hit b x rest e = subst (λ v. IsOneOf (if v then x ∷ rest else rest) x) (sym e) (inl refl)

to_targets : (ms : List Move) (a b : State) → IsOneOf ms (a to b) → IsOneOf (targets ms a) b
to_targets [] a b m = absurd m
to_targets (m ∷ ms) a b (inl e) =
    subst (λ v. IsOneOf (targets (v ∷ ms) a) b) (sym e) (may_hit (state_number a == state_number a) b (targets ms a) (same_number a))
to_targets (m ∷ ms) a b (inr h) = may_if (state_number m.source == state_number a) m.target (targets ms a) b (to_targets ms a b h)

passed : {A : Type 0} → (b : Bool) (y : A) (ys : List A) (x : A) → IsOneOf ys x → IsOneOf (cond b (y ∷ ys) ys) x
passed true y ys x m = inr m
passed false y ys x m = m

first_passed : {A : Type 0} → (b : Bool) (y : A) (ys : List A) (x : A) → b ≡ true → y ≡ x → IsOneOf (cond b (y ∷ ys) ys) x
first_passed true y ys x e f = inl f
first_passed false y ys x e f = absurd (let g : false ≡ true = e in cc)

filtered : {A : Type 0} → (p : A → Bool) (xs : List A) (x : A) → IsOneOf xs x → p x ≡ true → IsOneOf (filter p xs) x
filtered p [] x m e = absurd m
filtered p (y ∷ xs) x (inl f) e = first_passed (p y) y (filter p xs) x (ap p f ∙ e) f
filtered p (y ∷ xs) x (inr m) e = passed (p y) y (filter p xs) x (filtered p xs x m e)

pub May-filter : {A : Type 0} {xs : List A} {x : A} (p : A → Bool) → May xs x → p x ≡ true → May (filter p xs) x
May-filter p m e = record { one = filtered p _ _ m.one e }

-- STATES

state_of-number : (s : State) → state_of (state_number s) ≡ s
state_of-number Idle = refl
state_of-number Ready = refl
state_of-number Ident = refl
state_of-number Stby = refl
state_of-number Tran = refl
state_of-number Data = refl
state_of-number Rcv = refl
state_of-number Prg = refl
state_of-number Dis = refl

pub same_state : (a b : State) → state_number a ≡ state_number b → a ≡ b
same_state a b e = sym (state_of-number a) ∙ (ap state_of e ∙ state_of-number b)

may_if_cases : (b : Bool) (x : State) (rest : List State) (y : State) → IsOneOf (if b then x ∷ rest else rest) y → ((b ≡ true) × (x ≡ y)) ⊎ IsOneOf rest y
may_if_cases true x rest y (inl e) = inl (refl, e)
may_if_cases true x rest y (inr m) = inr m
may_if_cases false x rest y m = inr m

same_move : {a a' b b' : State} → a ≡ a' → b ≡ b' → (a to b) ≡ (a' to b')
same_move e f = cc

from_targets : (ms : List Move) (a b : State) → IsOneOf (targets ms a) b → IsOneOf ms (a to b)
from_targets [] a b m = absurd m
from_targets (m ∷ ms) a b t =
    elim (may_if_cases (state_number m.source == state_number a) m.target (targets ms a) b t) [
      | inl e ↦ inl (let s : m.source ≡ a = same_state m.source a (eqb-true _ _ e.0) in let t : m.target ≡ b = e.1 in same_move s t)
      | inr h ↦ inr (from_targets ms a b h)
    ]

pub May-targets : {ms : List Move} {a b : State} → May ms (a to b) → May (targets ms a) b
May-targets m = record { one = to_targets _ _ _ m.one }

pub May-from_targets : {ms : List Move} {a b : State} → May (targets ms a) b → May ms (a to b)
May-from_targets m = record { one = from_targets _ _ _ m.one }

-- TESTS

pub both_true : (a b : Bool) → a ≡ true → b ≡ true → (a && b) ≡ true
both_true a b e f = rw e f

pub and_left : (a b : Bool) → (a && b) ≡ true → a ≡ true
and_left true b e = refl
and_left false b e = e

pub and_right : (a b : Bool) → (a && b) ≡ true → b ≡ true
and_right true b e = e
and_right false b e = absurd (let f : false ≡ true = e in cc)

pub has_some-May : {A : Type 0} {xs : List A} {x : A} → May xs x → has_some xs ≡ true
has_some-May {xs = xs} m = go xs _ m.one
  where
    go : {A : Type 0} → (xs : List A) (x : A) → IsOneOf xs x → has_some xs ≡ true
    go [] x m = absurd m
    go (y ∷ ys) x m = refl

pub some_of : {A : Type 0} → (xs : List A) → has_some xs ≡ true → (x : A) × May xs x
some_of [] e = absurd (let f : false ≡ true = e in cc)
some_of (y ∷ ys) e = (y, here refl)

pub all-May : {A : Type 0} (p : A → Bool) {xs : List A} {x : A} → all p xs ≡ true → May xs x → p x ≡ true
all-May p {xs = xs} e m = go p xs _ e m.one
  where
    go : {A : Type 0} (p : A → Bool) → (xs : List A) (x : A) → all p xs ≡ true → IsOneOf xs x → p x ≡ true
    go p [] x e m = absurd m
    go p (y ∷ ys) x e (inl f) = subst (λ v. p v ≡ true) f (and_left _ _ e)
    go p (y ∷ ys) x e (inr m) = go p ys x (and_right _ _ e) m
