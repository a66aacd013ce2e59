-- Sums of polynomials, multiples of the generator, and the CRC7: it is one, and how one more bit changes it.
use Rattle.std.proofs.Common.{◌≡◌, Bool, true, false, ℕ, zero, suc, ◌+◌, [], ◌∷◌, ◌++◌, length, refl, sym, ◌∙◌, ap, arith, append_assoc, length-append}
use Rattle.std.specs.Prelude.{if◌then◌else◌}
use Rattle.sdv_frames.specs.Bits.{Bits}
use Rattle.sdv_frames.specs.Polynomial.{xor, ◌⊕◌, zeros, times_generator, multiple, IsCrc7, Crc7IsOne}

xor_assoc : (a b c : Bool) → xor (xor a b) c ≡ xor a (xor b c)
xor_assoc true true true = refl
xor_assoc true true false = refl
xor_assoc true false c = refl
xor_assoc false b c = refl

xor_same : (a b c : Bool) → xor a b ≡ xor a c → b ≡ c
xor_same false b c e = e
xor_same true true true e = refl
xor_same true true false e = cc
xor_same true false true e = cc
xor_same true false false e = refl

⊕_assoc : (p q r : Bits) → length p ≡ length q → length q ≡ length r → (p ⊕ q) ⊕ r ≡ p ⊕ (q ⊕ r)
⊕_assoc [] q r e f = refl
⊕_assoc (a ∷ p) [] r e f = refl
⊕_assoc (a ∷ p) (b ∷ q) [] e f = refl
⊕_assoc (a ∷ p) (b ∷ q) (c ∷ r) e f = rw (xor_assoc a b c, ⊕_assoc p q r (omega arith) (omega arith)) refl

length-⊕ : (p q : Bits) → length p ≡ length q → length (p ⊕ q) ≡ length p
length-⊕ [] q e = refl
length-⊕ (a ∷ p) [] e = absurd (omega arith)
length-⊕ (a ∷ p) (b ∷ q) e = ap suc (length-⊕ p q (omega arith))

⊕-append : (p q r s : Bits) → length p ≡ length r → (p ++ q) ⊕ (r ++ s) ≡ (p ⊕ r) ++ (q ⊕ s)
⊕-append [] q [] s e = refl
⊕-append [] q (b ∷ r) s e = absurd (omega arith)
⊕-append (a ∷ p) q [] s e = absurd (omega arith)
⊕-append (a ∷ p) q (b ∷ r) s e = ap (λ rest. xor a b ∷ rest) (⊕-append p q r s (omega arith))

-- zeros add nothing
zeros-⊕ : (q : Bits) → zeros (length q) ⊕ q ≡ q
zeros-⊕ [] = refl
zeros-⊕ (b ∷ q) = ap (λ rest. b ∷ rest) (zeros-⊕ q)

⊕-zeros : (q : Bits) → q ⊕ zeros (length q) ≡ q
⊕-zeros [] = refl
⊕-zeros (true ∷ q) = ap (λ rest. true ∷ rest) (⊕-zeros q)
⊕-zeros (false ∷ q) = ap (λ rest. false ∷ rest) (⊕-zeros q)

length-zeros : (n : ℕ) → length (zeros n) ≡ n
length-zeros zero = refl
length-zeros (suc n) = ap suc (length-zeros n)

-- a sum tells its second part by its first
⊕_same : (p q r : Bits) → length p ≡ length q → length p ≡ length r → p ⊕ q ≡ p ⊕ r → q ≡ r
⊕_same [] [] [] e f g = refl
⊕_same [] (b ∷ q) r e f g = absurd (omega arith)
⊕_same [] [] (c ∷ r) e f g = absurd (omega arith)
⊕_same (a ∷ p) [] r e f g = absurd (omega arith)
⊕_same (a ∷ p) (b ∷ q) [] e f g = absurd (omega arith)
⊕_same (a ∷ p) (b ∷ q) (c ∷ r) e f g =
    let first : xor a b ≡ xor a c = cc in
    let others : p ⊕ q ≡ p ⊕ r = cc in
    let one : b ≡ c = xor_same a b c first in
    let all : q ≡ r = ⊕_same p q r (omega arith) (omega arith) others in cc

length-times : (b : Bool) → length (times_generator b) ≡ 8
length-times true = refl
length-times false = refl

length-multiple : (q : Bits) → length (multiple q) ≡ length q + 7
length-multiple [] = refl
length-multiple (b ∷ q) =
    let top : length (times_generator b ++ zeros (length q)) ≡ 8 + length q =
    length-append (times_generator b) (zeros (length q)) ∙ rw (length-times b, length-zeros (length q)) refl in
    length-⊕ (times_generator b ++ zeros (length q)) (false ∷ multiple q) (omega (arith, length-multiple q)) ∙ omega arith

-- three summands, of which the first is the same on both sides
peeled : (n : ℕ) (x p p' r r' : Bits) → length x ≡ n → length p ≡ n → length p' ≡ n → length r ≡ n → length r' ≡ n →
    (x ⊕ p) ⊕ r ≡ (x ⊕ p') ⊕ r' → p ⊕ r ≡ p' ⊕ r'
peeled n x p p' r r' hx hp hp' hr hr' e =
    ⊕_same x (p ⊕ r) (p' ⊕ r') (omega (arith, length-⊕ p r)) (omega (arith, length-⊕ p' r'))
    (sym (⊕_assoc x p r (omega arith) (omega arith)) ∙ (e ∙ ⊕_assoc x p' r' (omega arith) (omega arith)))

length-padded : (n : ℕ) (r : Bits) → length r ≡ 7 → length (zeros n ++ r) ≡ n + 7
length-padded n r h = length-append (zeros n) r ∙ omega (arith, length-zeros n)

-- the generator without its highest term, or nothing
unfoldable pub low : Bool → Bits
low b = if b then false ∷ false ∷ false ∷ true ∷ false ∷ false ∷ true ∷ [] else zeros 7

length-low : (b : Bool) (n : ℕ) → length (low b ++ zeros n) ≡ n + 7
unfolding low
length-low true n = omega (arith, length-zeros n)
length-low false n = omega (arith, length-zeros n)

-- a sum with a multiple, by the first coefficient of its quotient
first_apart : (b : Bool) (q r : Bits) → multiple (b ∷ q) ⊕ (zeros (length (b ∷ q)) ++ r)
    ≡ b ∷ (((low b ++ zeros (length q)) ⊕ multiple q) ⊕ (zeros (length q) ++ r))
unfolding low
first_apart true q r = refl
first_apart false q r = refl

-- where the first coefficient is the same, the others leave the same
others_same : (b : Bool) (q q' r r' : Bits) → length q ≡ length q' → length r ≡ 7 → length r' ≡ 7 →
    multiple (b ∷ q) ⊕ (zeros (length (b ∷ q)) ++ r) ≡ multiple (b ∷ q') ⊕ (zeros (length (b ∷ q')) ++ r') →
    multiple q ⊕ (zeros (length q) ++ r) ≡ multiple q' ⊕ (zeros (length q') ++ r')
others_same b q q' r r' e f g h =
    let all : b ∷ (((low b ++ zeros (length q)) ⊕ multiple q) ⊕ (zeros (length q) ++ r))
    ≡ b ∷ (((low b ++ zeros (length q')) ⊕ multiple q') ⊕ (zeros (length q') ++ r')) =
    sym (first_apart b q r) ∙ (h ∙ first_apart b q' r') in
    let others : ((low b ++ zeros (length q)) ⊕ multiple q) ⊕ (zeros (length q) ++ r)
    ≡ ((low b ++ zeros (length q')) ⊕ multiple q') ⊕ (zeros (length q') ++ r') = cc in
    let one : ((low b ++ zeros (length q)) ⊕ multiple q) ⊕ (zeros (length q) ++ r) ≡ ((low b ++ zeros (length q)) ⊕ multiple q') ⊕ (zeros (length q') ++ r') =
    others ∙ ap (λ n. ((low b ++ zeros n) ⊕ multiple q') ⊕ (zeros (length q') ++ r')) (sym e) in
    peeled (length q + 7) (low b ++ zeros (length q)) (multiple q) (multiple q') (zeros (length q) ++ r) (zeros (length q') ++ r')
    (length-low b (length q)) (length-multiple q) (omega (arith, length-multiple q')) (length-padded (length q) r f)
    (omega (arith, length-padded (length q') r' g)) one

-- what is left of a multiple does not depend on the quotient
same_rest : (q q' r r' : Bits) → length q ≡ length q' → length r ≡ 7 → length r' ≡ 7
    → multiple q ⊕ (zeros (length q) ++ r) ≡ multiple q' ⊕ (zeros (length q') ++ r') → r ≡ r'
same_rest [] [] r r' e f g h = ⊕_same (zeros 7) r r' (omega arith) (omega arith) h
same_rest [] (b ∷ q') r r' e f g h = absurd (omega arith)
same_rest (b ∷ q) [] r r' e f g h = absurd (omega arith)
same_rest (true ∷ q) (false ∷ q') r r' e f g h = cc
same_rest (false ∷ q) (true ∷ q') r r' e f g h = cc
same_rest (true ∷ q) (true ∷ q') r r' e f g h = same_rest q q' r r' (omega arith) f g (others_same true q q' r r' (omega arith) f g h)
same_rest (false ∷ q) (false ∷ q') r r' e f g h = same_rest q q' r r' (omega arith) f g (others_same false q q' r r' (omega arith) f g h)

-- a message has one CRC7
pub one_crc7 : Crc7IsOne
one_crc7 message first second a b =
    same_rest a.quotient b.quotient first second (omega (arith, a.degree, b.degree)) a.below b.below
    (rw (a.degree, b.degree) (a.sum ∙ sym b.sum))

-- a summand on both sides cancels
cancelled : (p x : Bits) → length p ≡ length x → p ⊕ (x ⊕ p) ≡ x
cancelled [] [] e = refl
cancelled [] (b ∷ x) e = absurd (omega arith)
cancelled (a ∷ p) [] e = absurd (omega arith)
cancelled (true ∷ p) (true ∷ x) e = ap (λ rest. true ∷ rest) (cancelled p x (omega arith))
cancelled (true ∷ p) (false ∷ x) e = ap (λ rest. false ∷ rest) (cancelled p x (omega arith))
cancelled (false ∷ p) (true ∷ x) e = ap (λ rest. true ∷ rest) (cancelled p x (omega arith))
cancelled (false ∷ p) (false ∷ x) e = ap (λ rest. false ∷ rest) (cancelled p x (omega arith))

zeros-more : (n : ℕ) → zeros (suc n) ≡ zeros n ++ false ∷ []
zeros-more zero = refl
zeros-more (suc n) = ap (λ rest. false ∷ rest) (zeros-more n)

zeros_moved : (n : ℕ) (p : Bits) → zeros (suc n) ++ p ≡ zeros n ++ false ∷ p
zeros_moved zero p = refl
zeros_moved (suc n) p = ap (λ rest. false ∷ rest) (zeros_moved n p)

length-more : (p : Bits) (b : Bool) → length (p ++ b ∷ []) ≡ suc (length p)
length-more p b = length-append p (b ∷ []) ∙ omega arith

-- a sum with one more place
sum-more : (p q : Bits) → length p ≡ length q → (p ++ false ∷ []) ⊕ (q ++ false ∷ []) ≡ (p ⊕ q) ++ false ∷ []
sum-more p q e = ⊕-append p (false ∷ []) q (false ∷ []) e

-- one more coefficient of the quotient
multiple-append : (q : Bits) (t : Bool) → multiple (q ++ t ∷ []) ≡ (multiple q ++ false ∷ []) ⊕ (zeros (length q) ++ times_generator t)
multiple-append [] true = refl
multiple-append [] false = refl
multiple-append (b ∷ q) t =
    let top : length (times_generator b ++ zeros (length q)) ≡ length q + 8 =
    length-append (times_generator b) (zeros (length q)) ∙ omega (arith, length-times b, length-zeros (length q)) in
    let long : length ((times_generator b ++ zeros (length q)) ++ false ∷ []) ≡ length q + 9 =
    length-more (times_generator b ++ zeros (length q)) false ∙ omega arith in
    let wide : length ((false ∷ multiple q) ++ false ∷ []) ≡ length q + 9 = length-more (false ∷ multiple q) false ∙ omega (arith, length-multiple q) in
    let last : length (false ∷ (zeros (length q) ++ times_generator t)) ≡ length q + 9 =
    ap suc (length-append (zeros (length q)) (times_generator t)) ∙ omega (arith, length-zeros (length q), length-times t) in
    rw (length-more q t, zeros-more (length q), multiple-append q t, ← append_assoc (times_generator b) (zeros (length q)) (false ∷ []))
    (sym (⊕_assoc ((times_generator b ++ zeros (length q)) ++ false ∷ []) ((false ∷ multiple q) ++ false ∷ []) (false ∷ (zeros (length q) ++ times_generator t))
    (omega arith) (omega arith))
    ∙ ap (λ sum. sum ⊕ (false ∷ (zeros (length q) ++ times_generator t)))
    (sum-more (times_generator b ++ zeros (length q)) (false ∷ multiple q) (omega (arith, length-multiple q))))

-- the remainder with one more bit b, where s is its highest bit and rest the other six
unfoldable pub step : Bool → Bits → Bool → Bits
step s rest b = (rest ++ false ∷ []) ⊕ low (xor s b)

low_is_seven : (t : Bool) → length (low t) ≡ 7
unfolding low
low_is_seven true = refl
low_is_seven false = refl

length-step : (s : Bool) (rest : Bits) (b : Bool) → length rest ≡ 6 → length (step s rest b) ≡ 7
unfolding step
length-step s rest b h =
    length-⊕ (rest ++ false ∷ []) (low (xor s b)) (length-more rest false ∙ omega (arith, low_is_seven (xor s b))) ∙ (length-more rest false ∙ omega arith)

times_is : (t : Bool) → times_generator t ≡ t ∷ low t
unfolding low
times_is true = refl
times_is false = refl

xor-false : (t : Bool) → xor t false ≡ t
xor-false true = refl
xor-false false = refl

-- what the new coefficient takes away, and the new remainder, are the old remainder moved up and the bit
sum_step : (s : Bool) (rest : Bits) (b : Bool) → length rest ≡ 6
    → times_generator (xor s b) ⊕ (false ∷ step s rest b) ≡ (s ∷ (rest ++ false ∷ [])) ⊕ (b ∷ zeros 7)
unfolding step
sum_step s rest b h =
    let seven : length (rest ++ false ∷ []) ≡ 7 = length-more rest false ∙ omega arith in
    rw (times_is (xor s b), xor-false (xor s b), cancelled (low (xor s b)) (rest ++ false ∷ []) (omega (arith, low_is_seven (xor s b))))
    (ap (λ sum. xor s b ∷ sum) (sym (ap (λ n. (rest ++ false ∷ []) ⊕ zeros n) (sym seven) ∙ ⊕-zeros (rest ++ false ∷ []))))

-- sums of two parts that stand behind the same zeros
behind_zeros : (n : ℕ) (p q : Bits) → (zeros n ++ p) ⊕ (zeros n ++ q) ≡ zeros n ++ (p ⊕ q)
behind_zeros zero p q = refl
behind_zeros (suc n) p q = ap (λ rest. false ∷ rest) (behind_zeros n p q)

-- the message, moved up by one place, and the new bit
bit_set : (message : Bits) (b : Bool) → ((message ++ zeros 7) ++ false ∷ []) ⊕ (zeros (length message) ++ b ∷ zeros 7) ≡ (message ++ b ∷ []) ++ zeros 7
bit_set message b =
    rw (
      append_assoc message (zeros 7) (false ∷ []),
      ⊕-append message (zeros 7 ++ false ∷ []) (zeros (length message)) (b ∷ zeros 7)
          (sym (length-zeros (length message))),
      ⊕-zeros message,
    )
    (sym (append_assoc message (b ∷ []) (zeros 7)))

-- the sum that makes a CRC7, with one more coefficient of the quotient
sum_with_bit : (message product : Bits) (s : Bool) (rest : Bits) (b : Bool) → length product ≡ length message + 7 → length rest ≡ 6 →
    product ⊕ (zeros (length message) ++ s ∷ rest) ≡ message ++ zeros 7 →
    ((product ++ false ∷ []) ⊕ (zeros (length message) ++ times_generator (xor s b))) ⊕ (zeros (length message) ++ false ∷ step s rest b)
    ≡ (message ++ b ∷ []) ++ zeros 7
sum_with_bit message product s rest b wide six sum =
    let n = length message in
    let moved = product ++ false ∷ [] in
    let old = s ∷ (rest ++ false ∷ []) in
    let new = b ∷ zeros 7 in
    let moved_wide : length moved ≡ n + 8 = length-more product false ∙ omega arith in
    let term_wide : length (zeros n ++ times_generator (xor s b)) ≡ n + 8 =
    length-append (zeros n) (times_generator (xor s b)) ∙ omega (arith, length-zeros n, length-times (xor s b)) in
    let step_wide : length (zeros n ++ false ∷ step s rest b) ≡ n + 8 =
    length-append (zeros n) (false ∷ step s rest b) ∙ omega (arith, length-zeros n, length-step s rest b six) in
    let old_wide : length (zeros n ++ old) ≡ n + 8 = length-append (zeros n) old ∙ omega (arith, length-zeros n, length-more rest false) in
    let new_wide : length (zeros n ++ new) ≡ n + 8 = length-append (zeros n) new ∙ omega (arith, length-zeros n) in
    let narrow : length product ≡ length (zeros n ++ s ∷ rest) = wide ∙ (omega (arith, length-zeros n) ∙ sym (length-append (zeros n) (s ∷ rest))) in
    ⊕_assoc moved (zeros n ++ times_generator (xor s b)) (zeros n ++ false ∷ step s rest b) (omega arith) (omega arith)
    ∙ (ap (λ x. moved ⊕ x) (behind_zeros n (times_generator (xor s b)) (false ∷ step s rest b)
    ∙ (ap (λ x. zeros n ++ x) (sum_step s rest b six) ∙ sym (behind_zeros n old new)))
    ∙ (sym (⊕_assoc moved (zeros n ++ old) (zeros n ++ new) (omega arith) (omega arith))
    ∙ (ap (λ x. (moved ⊕ x) ⊕ (zeros n ++ new)) (sym (append_assoc (zeros n) (s ∷ rest) (false ∷ [])))
    ∙ (ap (λ x. x ⊕ (zeros n ++ new)) (sum-more product (zeros n ++ s ∷ rest) narrow ∙ ap (λ x. x ++ false ∷ []) sum)
    ∙ bit_set message b))))

-- the CRC7 of a message with one more bit
pub crc7-append : (message : Bits) (s : Bool) (rest : Bits) (b : Bool) → IsCrc7 message (s ∷ rest) → IsCrc7 (message ++ b ∷ []) (step s rest b)
crc7-append message s rest b c =
    let six : length rest ≡ 6 = omega (arith, c.below) in
    let product : multiple (c.quotient ++ xor s b ∷ []) ≡ (multiple c.quotient ++ false ∷ []) ⊕ (zeros (length message) ++ times_generator (xor s b)) =
    multiple-append c.quotient (xor s b) ∙ ap (λ n. (multiple c.quotient ++ false ∷ []) ⊕ (zeros n ++ times_generator (xor s b))) c.degree in
    let place : zeros (length (message ++ b ∷ [])) ++ step s rest b ≡ zeros (length message) ++ false ∷ step s rest b =
    ap (λ n. zeros n ++ step s rest b) (length-more message b) ∙ zeros_moved (length message) (step s rest b) in
    record {
      quotient = c.quotient ++ xor s b ∷ [];
      degree = length-more c.quotient (xor s b) ∙ (omega (arith, c.degree) ∙ sym (length-more message b));
      below = length-step s rest b six;
      sum =
          ap (λ x. x ⊕ (zeros (length (message ++ b ∷ [])) ++ step s rest b)) product
          ∙ (ap (λ x. ((multiple c.quotient ++ false ∷ []) ⊕ (zeros (length message) ++ times_generator (xor s b))) ⊕ x) place
          ∙ sum_with_bit message (multiple c.quotient) s rest b (length-multiple c.quotient ∙ omega (arith, c.degree)) six c.sum);
    }

-- the empty message has CRC7 0
pub crc7-nothing : IsCrc7 [] (zeros 7)
crc7-nothing = record { quotient = []; degree = refl; below = refl; sum = refl }
