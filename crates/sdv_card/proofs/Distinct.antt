use Rattle.std.proofs.Common.{◌≡◌, ℕ, zero, suc, ◌+◌, ◌<◌, List, [], ◌∷◌, ◌++◌, length, take, get_or, ◌⊎◌, inl, inr, ap, subst, sym, ◌∙◌, arith, ◌↔◌, map}
use Rattle.sdv_card.specs.declared.shape.Shape.{Shape}
use Rattle.sdv_card.specs.declared.event.Outcome.{Outcome}
use Rattle.sdv_card.specs.declared.event.Branch.{Branch}
use Rattle.sdv_card.specs.declared.event.Seen.{Seen}
use Rattle.sdv_card.specs.Code.{code_of}
use Rattle.sdv_card.specs.Outcomes.{outcome_of}
use Rattle.std.proofs.lemmas.List.{take_more, map-append}
use Rattle.sdv_card.specs.Lists.{May, IsOneOf, AreDistinct}
use Rattle.sdv_card.proofs.Members.{here, there, May-append_left, May-append_right}

push_cases : {A : Type 0} → (xs : List A) (y x : A) → IsOneOf (xs ++ y ∷ []) x → IsOneOf xs x ⊎ (y ≡ x)
push_cases [] y x (inl e) = inr e
push_cases [] y x (inr m) = absurd m
push_cases (z ∷ zs) y x (inl e) = inl (inl e)
push_cases (z ∷ zs) y x (inr m) = elim (push_cases zs y x m) [ inl n ↦ inl (inr n) | inr e ↦ inr e ]

pub May-push_cases : {A : Type 0} → (xs : List A) (y x : A) → May (xs ++ y ∷ []) x → May xs x ⊎ (y ≡ x)
May-push_cases xs y x m = elim (push_cases xs y x m.one) [ inl n ↦ inl (record { one = n }) | inr e ↦ inr e ]

pub May-push : {A : Type 0} → (xs : List A) (y x : A) → May xs x ⊎ (y ≡ x) → May (xs ++ y ∷ []) x
May-push xs y x (inl m) = May-append_left (y ∷ []) m
May-push xs y x (inr e) = May-append_right xs (here e)

at_place : {A : Type 0} → (xs : List A) (i : ℕ) (d x : A) → i < length xs → get_or xs i d ≡ x → IsOneOf xs x
at_place [] i d x h e = absurd (omega arith)
at_place (y ∷ ys) zero d x h e = inl e
at_place (y ∷ ys) (suc i) d x h e = inr (at_place ys i d x (omega (arith, h)) e)

pub May-at : {A : Type 0} → (xs : List A) (i : ℕ) (d x : A) → i < length xs → get_or xs i d ≡ x → May xs x
May-at xs i d x h e = record { one = at_place xs i d x h e }

-- one more element that is another one
pub not_yet : {A : Type 0} → (xs : List A) (i : ℕ) (d x : A) → i < length xs → (May (take i xs) x → ⊥) → (get_or xs i d ≡ x → ⊥) →
    May (take (i + 1) xs) x → ⊥
not_yet xs i d x h n e m =
    elim (May-push_cases (take i xs) (get_or xs i d) x (subst (λ v. May v x) (take_more xs i d h) m)) [ inl k ↦ n k | inr f ↦ e f ]

pub AreDistinct-push : {A : Type 0} → (xs : List A) (x : A) → AreDistinct xs → (May xs x → ⊥) → AreDistinct (xs ++ x ∷ [])
AreDistinct-push [] x d n = ((λ m. m.one), tt)
AreDistinct-push (y ∷ ys) x d n =
    ((λ m. elim (May-push_cases ys x y m) [ inl k ↦ d.0 k | inr e ↦ n (here (sym e)) ]), AreDistinct-push ys x d.1 (λ m. n (there m)))

-- the outcomes of one more branch
pub more_outcomes : (bs : List Branch) (i : ℕ) (d : Branch) (out o : Outcome) → i < length bs → outcome_of (get_or bs i d) ≡ out →
    May (map outcome_of (take (i + 1) bs)) o ↔ (May (map outcome_of (take i bs)) o ⊎ (out ≡ o))
more_outcomes bs i d out o h e =
    let m : map outcome_of (take (i + 1) bs) ≡ map outcome_of (take i bs) ++ out ∷ [] =
    ap (map outcome_of) (take_more bs i d h) ∙ (map-append outcome_of (take i bs) (get_or bs i d ∷ []) ∙ ap (λ v. map outcome_of (take i bs) ++ v ∷ []) e) in (
      (λ k. May-push_cases (map outcome_of (take i bs)) out o (subst (λ v. May v o) m k)),
      (λ k. subst (λ v. May v o) (sym m) (May-push (map outcome_of (take i bs)) out o k)),
    )

abbrev outcome : ℕ → Seen → Outcome
outcome n v = record { shape = record { 0 = n }; seen = v }

pub outcome_is : (s : Shape) (b : Branch) → s.0 ≡ code_of b.fields → outcome_of b ≡ record { shape = s; seen = b.seen }
outcome_is s b e = ap (λ n. outcome n b.seen) (sym e)
