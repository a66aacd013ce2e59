-- A form with a coefficient for each loop comes from such forms of its parts.
use Rattle.std.proofs.Common.{◌≡◌, ℕ, zero, suc, ◌+◌, ◌*◌, max, List, [], ◌∷◌, Option, Some, None, get_or, refl, sym, ap, ◌∙◌, arith}
use Rattle.sdv_certify.specs.declared.form.Form.{Form}
use Rattle.sdv_certify.specs.declared.spans.Spans.{Spans}
use Rattle.sdv_certify.specs.Spans.{or_zero}
use Rattle.sdv_certify.specs.Forms.{greatest, greater, either_form, leads_to, sends_then, each_of, last_turn, head_form, before_loop, inside_too, first_of, full_form, in_full}
use Rattle.sdv_certify.proofs.AtMost.{greatest_at}

-- LISTS OF COEFFICIENTS

greatest_none : (xs : List ℕ) → greatest xs [] ≡ xs
greatest_none [] = refl
greatest_none (x ∷ xs) = refl

first_greatest : (n : ℕ) (xs ys : List ℕ) → first_of n (greatest xs ys) ≡ greatest (first_of n xs) (first_of n ys)
first_greatest zero xs ys = refl
first_greatest (suc n) [] [] = ap (λ l. 0 ∷ l) (first_greatest n [] [])
first_greatest (suc n) [] (y ∷ ys) =
    let e : y ≡ max 0 y = omega arith in
    ap (λ l. y ∷ l) (first_greatest n [] ys) ∙ ap (λ z. z ∷ greatest (first_of n []) (first_of n ys)) e
first_greatest (suc n) (x ∷ xs) [] =
    let e : x ≡ max x 0 = omega arith in
    ap (λ l. x ∷ l) (ap (first_of n) (sym (greatest_none xs)) ∙ first_greatest n xs []) ∙ ap (λ z. z ∷ greatest (first_of n xs) (first_of n [])) e
first_greatest (suc n) (x ∷ xs) (y ∷ ys) = ap (λ l. max x y ∷ l) (first_greatest n xs ys)

first_twice : (n : ℕ) (xs : List ℕ) → first_of n (first_of n xs) ≡ first_of n xs
first_twice zero xs = refl
first_twice (suc n) [] = ap (λ l. 0 ∷ l) (first_twice n [])
first_twice (suc n) (x ∷ xs) = ap (λ l. x ∷ l) (first_twice n xs)

first_fewer : (n : ℕ) (xs : List ℕ) → first_of n (first_of (suc n) xs) ≡ first_of n xs
first_fewer zero xs = refl
first_fewer (suc n) [] = ap (λ l. 0 ∷ l) (first_fewer n [])
first_fewer (suc n) (x ∷ xs) = ap (λ l. x ∷ l) (first_fewer n xs)

pub first_four : (xs : List ℕ) → first_of 4 xs ≡ get_or xs 0 0 ∷ get_or xs 1 0 ∷ get_or xs 2 0 ∷ get_or xs 3 0 ∷ []
first_four [] = refl
first_four (a ∷ []) = refl
first_four (a ∷ b ∷ []) = refl
first_four (a ∷ b ∷ c ∷ []) = refl
first_four (a ∷ b ∷ c ∷ d ∷ xs) = refl

pub first_three : (xs : List ℕ) → first_of 3 xs ≡ get_or xs 0 0 ∷ get_or xs 1 0 ∷ get_or xs 2 0 ∷ []
first_three [] = refl
first_three (a ∷ []) = refl
first_three (a ∷ b ∷ []) = refl
first_three (a ∷ b ∷ c ∷ xs) = refl

greatest_absorb : (n : ℕ) (xs ys : List ℕ) → first_of n (greatest xs ys) ≡ first_of n (greatest (first_of n xs) (first_of n ys))
greatest_absorb n xs ys =
    let e = first_greatest n (first_of n xs) (first_of n ys) in
    first_greatest n xs ys ∙ sym (rw (first_twice n xs, first_twice n ys) at e)

-- FORMS

abbrev form_is : ℕ → List ℕ → Form
form_is base each = record { base = base; each = each }

pub full_greater : (f g : Form) → full_form (greater f g)
    ≡ form_is (max f.base g.base) (max (get_or f.each 0 0) (get_or g.each 0 0) ∷ max (get_or f.each 1 0) (get_or g.each 1 0)
    ∷ max (get_or f.each 2 0) (get_or g.each 2 0) ∷ max (get_or f.each 3 0) (get_or g.each 3 0) ∷ [])
full_greater f g =
    ap (form_is (max f.base g.base)) (first_greatest 4 f.each g.each ∙ ap (λ l. greatest l (first_of 4 g.each)) (first_four f.each)
    ∙ ap (greatest (get_or f.each 0 0 ∷ get_or f.each 1 0 ∷ get_or f.each 2 0 ∷ get_or f.each 3 0 ∷ [])) (first_four g.each))

pub full_twice : (f : Form) → full_form (full_form f) ≡ full_form f
full_twice f = ap (form_is f.base) (first_twice 4 f.each)

pub in_full_twice : (o : Option Form) → in_full (in_full o) ≡ in_full o
in_full_twice None = refl
in_full_twice (Some f) = ap Some (full_twice f)

greater_absorb : (f g : Form) → full_form (greater f g) ≡ full_form (greater (full_form f) (full_form g))
greater_absorb f g = ap (form_is (max f.base g.base)) (greatest_absorb 4 f.each g.each)

either_absorb : (x y : Option Form) → in_full (either_form x y) ≡ in_full (either_form (in_full x) (in_full y))
either_absorb None y = sym (in_full_twice y)
either_absorb (Some f) None = sym (in_full_twice (Some f))
either_absorb (Some f) (Some g) = ap Some (greater_absorb f g)

leads_absorb : (x : Option Form) → full_form (leads_to x) ≡ full_form (leads_to (in_full x))
leads_absorb None = refl
leads_absorb (Some f) = sym (full_twice f)

sends_absorb : (x : Option Form) → full_form (sends_then x) ≡ full_form (sends_then (in_full x))
sends_absorb None = refl
sends_absorb (Some f) = ap (form_is (1 + f.base)) (sym (first_twice 4 f.each))

inside_absorb : (x : Option Form) → in_full (inside_too x) ≡ in_full (inside_too (in_full x))
inside_absorb None = refl
inside_absorb (Some f) = ap (λ l. Some (form_is f.base (0 ∷ l))) (sym (first_fewer 3 f.each))

each_absorb : (leave : Option ℕ) (xs ys : List ℕ) → first_of 4 (greatest xs (each_of leave ys))
    ≡ first_of 4 (greatest (first_of 4 xs) (each_of leave (first_of 4 ys)))
each_absorb None xs ys =
    ap (first_of 4) (greatest_none xs) ∙ sym (first_twice 4 xs) ∙ ap (first_of 4) (sym (greatest_none (first_of 4 xs)))
each_absorb (Some n) xs ys = greatest_absorb 4 xs ys

last_absorb : (u : Spans) (f g : Form) → full_form (last_turn u f g) ≡ full_form (last_turn u (full_form f) (full_form g))
last_absorb u f g = ap (form_is (last_turn u f g).base) (each_absorb u.leave f.each g.each)

head_absorb : (u : Spans) (f : Form) → full_form (head_form u f) ≡ full_form (head_form u (full_form f))
head_absorb u f = ap (λ l. form_is f.base (or_zero u.on ∷ l)) (sym (first_fewer 3 f.each))

before_absorb : (n : ℕ) (u : Spans) (f : Form) → full_form (before_loop n u f) ≡ full_form (before_loop n u (full_form f))
before_absorb n u f = ap (form_is (f.base + or_zero u.on * n)) (sym (first_twice 4 f.each))

-- EQUAL IN FULL

pub greater_same : (f f' g g' : Form) → full_form f ≡ full_form f' → full_form g ≡ full_form g' → full_form (greater f g) ≡ full_form (greater f' g')
greater_same f f' g g' e h =
    greater_absorb f g ∙ ap (λ x. full_form (greater x (full_form g))) e ∙ ap (λ y. full_form (greater (full_form f') y)) h ∙ sym (greater_absorb f' g')

pub either_same : (x x' y y' : Option Form) → in_full x ≡ in_full x' → in_full y ≡ in_full y' → in_full (either_form x y) ≡ in_full (either_form x' y')
either_same x x' y y' e h =
    either_absorb x y ∙ ap (λ o. in_full (either_form o (in_full y))) e ∙ ap (λ o. in_full (either_form (in_full x') o)) h ∙ sym (either_absorb x' y')

pub leads_same : (x x' : Option Form) → in_full x ≡ in_full x' → full_form (leads_to x) ≡ full_form (leads_to x')
leads_same x x' e = leads_absorb x ∙ ap (λ o. full_form (leads_to o)) e ∙ sym (leads_absorb x')

pub sends_same : (x x' : Option Form) → in_full x ≡ in_full x' → full_form (sends_then x) ≡ full_form (sends_then x')
sends_same x x' e = sends_absorb x ∙ ap (λ o. full_form (sends_then o)) e ∙ sym (sends_absorb x')

pub inside_same : (x x' : Option Form) → in_full x ≡ in_full x' → in_full (inside_too x) ≡ in_full (inside_too x')
inside_same x x' e = inside_absorb x ∙ ap (λ o. in_full (inside_too o)) e ∙ sym (inside_absorb x')

pub last_same : (u : Spans) (f f' g g' : Form) → full_form f ≡ full_form f' → full_form g ≡ full_form g'
    → full_form (last_turn u f g) ≡ full_form (last_turn u f' g')
last_same u f f' g g' e h =
    last_absorb u f g ∙ ap (λ x. full_form (last_turn u x (full_form g))) e ∙ ap (λ y. full_form (last_turn u (full_form f') y)) h ∙ sym (last_absorb u f' g')

pub head_same : (u : Spans) (f f' : Form) → full_form f ≡ full_form f' → full_form (head_form u f) ≡ full_form (head_form u f')
head_same u f f' e = head_absorb u f ∙ ap (λ x. full_form (head_form u x)) e ∙ sym (head_absorb u f')

pub before_same : (n : ℕ) (u : Spans) (f f' : Form) → full_form f ≡ full_form f' → full_form (before_loop n u f) ≡ full_form (before_loop n u f')
before_same n u f f' e = before_absorb n u f ∙ ap (λ x. full_form (before_loop n u x)) e ∙ sym (before_absorb n u f')

-- WHAT ARRAYS OF FOUR MAKE

pub greatest_four : (xs ys : List ℕ) → max (get_or xs 0 0) (get_or ys 0 0) ∷ max (get_or xs 1 0) (get_or ys 1 0) ∷ max (get_or xs 2 0) (get_or ys 2 0) ∷ max
    (get_or xs 3 0) (get_or ys 3 0) ∷ [] ≡ first_of 4 (greatest xs ys)
greatest_four xs ys =
    sym (first_four (greatest xs ys) ∙ rw (greatest_at xs ys 0, greatest_at xs ys 1, greatest_at xs ys 2, greatest_at xs ys 3) refl)
