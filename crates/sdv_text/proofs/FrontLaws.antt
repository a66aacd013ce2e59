-- Words and digits at the front of a text, and steps of reading.
use Rattle.std.proofs.Common.{◌≡◌, ℕ, suc, ◌+◌, ◌-◌, ◌*◌, ◌<◌, ◌≤◌, min, Bool, true, false, cond, ◌&&◌, nat_eq, List, [], ◌∷◌, ◌++◌, length, take, drop, get_or, Option, Some, None, ◌⊎◌, inl, inr, refl, ap, arith, add-one, drop-cons, eq-eqb}
use Rattle.std.specs.List.{prefix_len}
use Rattle.std.specs.Cmp.Lexicographic.{pointwise}
use Rattle.std.proofs.Math.ListN.{drop_of_length-le}
use Rattle.std.proofs.lemmas.Bool.{and_parts, eqb-true}
use Rattle.std.proofs.lemmas.List.Folds.{length-prefix_len}
use Rattle.sdv_text.specs.Fronts.{◌>>=◌, after, is_digit, run, number_after}

-- STEPS

-- what a step that gave something shows
pub bind_some : {A B : Type 0} (r : Option A) (f : A → Option B) (y : B) → (r >>= f) ≡ Some y → (x : A) × (r ≡ Some x) × (f x ≡ Some y)
bind_some (Some x) f y e = (x, refl, e)
bind_some None f y e = absurd (cc)

pub some_is : {A : Type 0} (x y : A) → Some x ≡ Some y → x ≡ y
some_is x y e = cc

-- a test that let something through
pub tested : {A : Type 0} (b : Bool) (x : Option A) (y : A) → cond b x None ≡ Some y → (b ≡ true) × (x ≡ Some y)
tested true x y e = (refl, e)
tested false x y e = absurd (cc)

pub not_tested : {A : Type 0} (b : Bool) (x : Option A) (y : A) → cond b None x ≡ Some y → (b ≡ false) × (x ≡ Some y)
not_tested true x y e = absurd (cc)
not_tested false x y e = (refl, e)

pub either : (b : Bool) → (b ≡ true) ⊎ (b ≡ false)
either true = inl refl
either false = inr refl

pub both : (x y : Bool) → x ≡ true → y ≡ true → (x && y) ≡ true
both x y p q = rw (p, q) refl

-- WORDS

none_by : (t r : Bool) (x : Option (List ℕ)) → (t && r) ≡ false → (r ≡ false → x ≡ None) → cond t x None ≡ None
none_by true r x e h = h e
none_by false r x e h = refl

pub after_some : (word bs : List ℕ) → pointwise nat_eq (take (length word) bs) word ≡ true → after word bs ≡ Some (drop (length word) bs)
after_some [] bs h = refl
after_some (w ∷ ws) [] h = absurd (cc)
after_some (w ∷ ws) (b ∷ bs) h =
    let parts = and_parts (nat_eq b w) (pointwise nat_eq (take (length ws) bs) ws) h in
    rw parts.0 (after_some ws bs parts.1)

pub after_none : (word bs : List ℕ) → pointwise nat_eq (take (length word) bs) word ≡ false → after word bs ≡ None
after_none [] bs h = absurd (cc)
after_none (w ∷ ws) [] h = refl
after_none (w ∷ ws) (b ∷ bs) h = none_by (nat_eq b w) (pointwise nat_eq (take (length ws) bs) ws) (after ws bs) h (after_none ws bs)

-- what follows a word, behind it
pub after_takes : (word bs rest : List ℕ) → after word bs ≡ Some rest → bs ≡ word ++ rest
after_takes [] bs rest e = some_is bs rest e
after_takes (w ∷ ws) [] rest e = absurd (cc)
after_takes (w ∷ ws) (b ∷ bs) rest e =
    let p = tested (nat_eq b w) (after ws bs) rest e in
    rw (eqb-true b w p.0) (ap (λ (l : List ℕ). w ∷ l) (after_takes ws bs rest p.1))

pub after_again : (word rest : List ℕ) → after word (word ++ rest) ≡ Some rest
after_again [] rest = refl
after_again (w ∷ ws) rest = rw (eq-eqb w w refl) (after_again ws rest)

-- DIGITS

pub run_is : (bs : List ℕ) → run is_digit bs ≡ prefix_len is_digit bs
run_is bs = length-prefix_len is_digit bs

-- NUMBERS, up to a cap

capped_step : (d x y cap : ℕ) → min x cap ≡ min y cap → min (x * 10 + d) cap ≡ min (y * 10 + d) cap
capped_step d x y cap e = omega arith

capped : (x y cap : ℕ) (bs : List ℕ) → min x cap ≡ min y cap → min (number_after x bs) cap ≡ min (number_after y bs) cap
unfolding number_after
capped x y cap [] e = e
capped x y cap (d ∷ bs) e = capped (x * 10 + (d - 48)) (y * 10 + (d - 48)) cap bs (capped_step (d - 48) x y cap e)

-- one more digit
pub capped_more : (cap before value i : ℕ) (digits : List ℕ) → i < length digits → value ≡ min (before * 10 + (get_or digits i 0 - 48)) cap
    → min (number_after value (drop (i + 1) digits)) cap ≡ min (number_after before (drop i digits)) cap
unfolding number_after
capped_more cap before value i digits lt e =
    rw (add-one, drop-cons digits i 0) (capped value (before * 10 + (get_or digits i 0 - 48)) cap (drop (suc i) digits) (omega arith))

-- no more digits
pub capped_end : (cap before i : ℕ) (digits : List ℕ) → length digits ≤ i → before ≤ cap → min (number_after before (drop i digits)) cap ≡ before
unfolding number_after
capped_end cap before i digits le small = rw (drop_of_length-le digits le) (omega arith)
