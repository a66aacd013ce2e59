-- Which buffer has the block at a place.
use Rattle.std.proofs.Common.{◌≡◌, ℕ, ◌<◌, ◌≤◌, inl, inr, refl, sym, ap, subst, ◌∙◌, List, length, Option, Some, None, Bool, true, false, cond, ltb, arith, position}
use Rattle.std.specs.List.{position_or_len}
use Rattle.std.proofs.lemmas.List.{get_or_past}
use Rattle.std.proofs.lemmas.List.Sums.{fails_before_first}
use Rattle.std.proofs.lemmas.List.Quantifiers.{position-Some}
use Rattle.std.proofs.lemmas.Bool.{eqb-true, cases_lt, both_ways, ltb-false}
use Rattle.sdv_image.specs.declared.buffer.Held.TheVariants.{Nothing}
use Rattle.sdv_image.specs.declared.buffer.Buffer.{Buffer}
use Rattle.sdv_image.specs.Buffers.{place_of, is_place, has_place, no_buffer, buffer_at, HasPlace, NoMorePlaces, IsFreeFor}
use Rattle.sdv_image.proofs.ShownLaws.{same_place}

is_place-true : (place : ℕ) (held : Option ℕ) → is_place place held ≡ true → held ≡ Some place
is_place-true place None e = cc
is_place-true place (Some q) e = ap (λ (n : ℕ). Some n) (eqb-true q place e)

-- a buffer that has a block is one of them
pub has_index : (bs : List Buffer) (i place : ℕ) → HasPlace bs i place → i < length bs
has_index bs i place h = elim (cases_lt i (length bs)) [ inl l ↦ l | inr p ↦ absurd (none p) ]
  where
    none : length bs ≤ i → ⊥
    none p = let clash : None ≡ Some place = ap (λ (b : Buffer). place_of b.held) (sym (get_or_past bs i no_buffer p)) ∙ h in cc

pub found_at : (bs : List Buffer) (i place : ℕ) → position (has_place place) bs ≡ Some i → HasPlace bs i place
found_at bs i place e = is_place-true place _ (position-Some (has_place place) bs i no_buffer e).1

pub absent_from : (bs : List Buffer) (place : ℕ) → position (has_place place) bs ≡ None → (i : ℕ) → HasPlace bs i place → ⊥
absent_from bs place e i h = both_ways _ (fails_before_first (has_place place) bs i no_buffer before) (same_place place _ h)
  where
    past : (t : Bool) → t ≡ ltb (position_or_len (has_place place) bs) (length bs) → cond t (Some (position_or_len (has_place place) bs)) None ≡ None →
        t ≡ false
    past true s f = let clash : Some (position_or_len (has_place place) bs) ≡ None = f in cc
    past false s f = refl

    before : i < position_or_len (has_place place) bs
    before = let l = has_index bs i place h in let p = ltb-false _ _ (past _ refl e) in omega (arith, l, p)

-- the same of what `find` answers
pub found_in : (bs l : List Buffer) (i place : ℕ) (answer : Option ℕ) → answer ≡ position (has_place place) l → l ≡ bs → answer ≡ Some i → HasPlace bs i place
found_in bs l i place answer e s f = subst (λ (k : List Buffer). HasPlace k i place) s (found_at l i place (sym e ∙ f))

pub absent_in : (bs l : List Buffer) (place : ℕ) (answer : Option ℕ) → answer ≡ position (has_place place) l → l ≡ bs → answer ≡ None → (i : ℕ) →
    HasPlace bs i place → ⊥
absent_in bs l place answer e s f i h = absent_from l place (sym e ∙ f) i (subst (λ (k : List Buffer). HasPlace k i place) (sym s) h)

-- WHICH BUFFER MAY HAVE IT

pub free_found : (bs : List Buffer) (i place : ℕ) → ((i j q : ℕ) → HasPlace bs i q → HasPlace bs j q → i ≡ j) → HasPlace bs i place → IsFreeFor bs i place
free_found bs i place d h = record {
  own = λ q p. let both : Some q ≡ Some place = sym p ∙ h in cc;
  alone = λ j p. d j i place p h;
}

pub free_empty : (old bs : List Buffer) (i place : ℕ) → (buffer_at bs i).held ≡ Nothing → ((j : ℕ) → HasPlace old j place → ⊥) → NoMorePlaces old bs →
    IsFreeFor bs i place
free_empty old bs i place e n m = record {
  own = λ q p. let clash : None ≡ Some q = sym (ap place_of e) ∙ p in absurd (cc);
  alone = λ j p. absurd (n j (m j place p));
}
