-- One more element of a list that a loop goes through.
use Rattle.std.proofs.Common.{◌≡◌, ℕ, ◌+◌, ◌<◌, ◌==◌, List, [], ◌∷◌, ◌++◌, length, take, get_or, map, refl, ap, sym, ◌∙◌, append_assoc, Bool, true, false, if◌then◌else◌}
use Rattle.std.proofs.lemmas.List.{take_more, map-append}
use Rattle.std.proofs.lemmas.Bool.{eq-eqb, ne_eqb}
use Rattle.sdv_card.specs.declared.state.State.{State}
use Rattle.sdv_card.specs.declared.command.Move.{Move}
use Rattle.sdv_card.specs.Lists.{each}
use Rattle.sdv_card.specs.States.{state_number}
use Rattle.sdv_card.specs.StateTable.{targets}

pub each-append : {A B : Type 0} → (xs ys : List A) (f : A → List B) → each (xs ++ ys) f ≡ each xs f ++ each ys f
each-append [] ys f = refl
each-append (x ∷ xs) ys f = ap (λ v. f x ++ v) (each-append xs ys f) ∙ sym (append_assoc (f x) (each xs f) (each ys f))

append_nil : {A : Type 0} → (xs : List A) → xs ++ [] ≡ xs
append_nil [] = refl
append_nil (x ∷ xs) = ap (λ v. x ∷ v) (append_nil xs)

-- each of one more element
pub each_more : {A B : Type 0} → (xs : List A) (i : ℕ) (d : A) (f : A → List B) → i < length xs →
    each (take (i + 1) xs) f ≡ each (take i xs) f ++ f (get_or xs i d)
each_more xs i d f h =
    ap (λ v. each v f) (take_more xs i d h) ∙ (each-append (take i xs) (get_or xs i d ∷ []) f
    ∙ ap (λ v. each (take i xs) f ++ v) (append_nil (f (get_or xs i d))))

-- map of one more element
pub map_more : {A B : Type 0} → (xs : List A) (i : ℕ) (d : A) (f : A → B) → i < length xs →
    map f (take (i + 1) xs) ≡ map f (take i xs) ++ f (get_or xs i d) ∷ []
map_more xs i d f h = ap (map f) (take_more xs i d h) ∙ map-append f (take i xs) (get_or xs i d ∷ [])

append_if : (b : Bool) (x : State) (ys zs : List State) → (if b then x ∷ (ys ++ zs) else (ys ++ zs)) ≡ (if b then x ∷ ys else ys) ++ zs
append_if true x ys zs = refl
append_if false x ys zs = refl

pub targets-append : (ms ns : List Move) (from : State) → targets (ms ++ ns) from ≡ targets ms from ++ targets ns from
targets-append [] ns from = refl
targets-append (m ∷ ms) ns from =
    ap (λ v. if state_number m.source == state_number from then m.target ∷ v else v) (targets-append ms ns from)
    ∙ append_if (state_number m.source == state_number from) m.target (targets ms from) (targets ns from)

-- the targets of one more move
pub targets_more : (ms : List Move) (i : ℕ) (d : Move) (from : State) → i < length ms →
    targets (take (i + 1) ms) from ≡ targets (take i ms) from ++ targets (get_or ms i d ∷ []) from
targets_more ms i d from h = ap (λ v. targets v from) (take_more ms i d h) ∙ targets-append (take i ms) (get_or ms i d ∷ []) from

one_target : (b : Bool) (x : State) → b ≡ true → (if b then x ∷ [] else []) ≡ x ∷ []
one_target true x e = refl
one_target false x e = absurd (let f : false ≡ true = e in cc)

no_target : (b : Bool) (x : State) → b ≡ false → (if b then x ∷ [] else []) ≡ []
no_target true x e = absurd (let f : true ≡ false = e in cc)
no_target false x e = refl

-- a move from the state; a move from another one
pub targets_hit : (ms : List Move) (i : ℕ) (d : Move) (from : State) → i < length ms →
    state_number (get_or ms i d).source ≡ state_number from →
    targets (take (i + 1) ms) from ≡ targets (take i ms) from ++ (get_or ms i d).target ∷ []
targets_hit ms i d from h e =
    targets_more ms i d from h ∙ ap (λ v. targets (take i ms) from ++ v) (one_target _ _ (eq-eqb _ _ e))

pub targets_miss : (ms : List Move) (i : ℕ) (d : Move) (from : State) → i < length ms →
    (state_number (get_or ms i d).source ≡ state_number from → ⊥) →
    targets (take (i + 1) ms) from ≡ targets (take i ms) from
targets_miss ms i d from h e =
    targets_more ms i d from h ∙ (ap (λ v. targets (take i ms) from ++ v) (no_target _ _ (ne_eqb _ _ e)) ∙ append_nil (targets (take i ms) from))
