-- The tokens of a text, token by token.
use Rattle.std.proofs.Common.{◌≡◌, ℕ, zero, suc, ◌+◌, ◌<◌, ◌≤◌, Bool, true, false, List, [], ◌∷◌, length, drop, get_or, refl, sym, ap, ◌∙◌, arith, cond, eqb, ◌&&◌, slice_index, add-one, drop-cons, Option, Some, None}
use Rattle.std.proofs.Math.Seq.{drop-length}
use Rattle.std.proofs.lemmas.List.{length-drop}
use Rattle.std.proofs.lemmas.List.Folds.{length-prefix_len}
use Rattle.std.proofs.lemmas.Bool.Decides.{nat_tests}
use Rattle.sdv_script.specs.declared.token.Sign.{Sign}
use Rattle.sdv_script.specs.declared.token.Sign.TheVariants as sign
use Rattle.sdv_script.specs.declared.token.Token.{Token as Read}
use Rattle.sdv_script.specs.declared.token.Token.TheVariants as read
use Rattle.sdv_script.specs.TokenView.{token_of, list_of, IsThere}
use Rattle.sdv_script.specs.Tokens.{Mark, Stray, gap_step, gap_from, Token, Found, is_lower, is_digit, goes_on, is_joined, run, sign_at, first_found, after_gap, tokens_by, first_tokens, tokens}

gap_from-le : (step : Option Bool) (b : ℕ) (bs : List ℕ) → ((c : Bool) → length (after_gap c bs) ≤ length bs)
    → length (gap_from step (b ∷ bs) (λ c. after_gap c bs)) ≤ suc (length bs)
gap_from-le None b bs shorter = omega arith
gap_from-le (Some c) b bs shorter = omega (arith, shorter c)

-- a gap does not make a text longer
pub after_gap-le : (text : List ℕ) (in_comment : Bool) → length (after_gap in_comment text) ≤ length text
unfolding after_gap
after_gap-le [] in_comment = omega arith
after_gap-le (b ∷ bs) in_comment = gap_from-le (gap_step in_comment b) b bs (after_gap-le bs)

-- a run that begins is not empty
run_begins : (test : ℕ → Bool) (b : ℕ) (bs : List ℕ) → test b ≡ true → 1 ≤ run test (b ∷ bs)
run_begins test b bs e = rw (length-prefix_len test (b ∷ bs), e) (omega arith)

goes_on_lower : (b : ℕ) → is_lower b ≡ true → goes_on b ≡ true
goes_on_lower b e = rw e refl

is_joined_digit : (b : ℕ) → is_digit b ≡ true → is_joined b ≡ true
is_joined_digit b e = grind (arith, nat_tests)

one_if : (t : Bool) (x y : Found) → (t ≡ true → 1 ≤ x.1) → 1 ≤ y.1 → 1 ≤ (cond t x y).1
one_if true x y p q = p refl
one_if false x y p q = q

abbrev one_of : Sign → Found
one_of s = (Mark s, 1)

one_sign : (t : Bool) (s : Sign) (y : Found) → 1 ≤ y.1 → 1 ≤ (cond t (one_of s) y).1
one_sign true s y p = omega arith
one_sign false s y p = p

two_or_one : (t : Bool) (x y : Found) → x ≡ (Mark sign.AtLeast, 2) → y ≡ (Stray, 1) → 1 ≤ (cond t x y).1
two_or_one true x y p q = rw p (omega arith)
two_or_one false x y p q = rw q (omega arith)

sign_one : (b : ℕ) (text : List ℕ) → 1 ≤ (sign_at b text).1
sign_one b text =
    one_sign (eqb b 123) sign.OpenBrace _ (
    one_sign (eqb b 125) sign.CloseBrace _ (
    one_sign (eqb b 61) sign.Equals _ (
    one_sign (eqb b 43) sign.Plus _ (
    one_sign (eqb b 45) sign.Minus _ (
    one_sign (eqb b 60) sign.Below _ (
    one_sign (eqb b 38) sign.And _ (
    two_or_one (eqb b 62 && eqb (slice_index text 1) 61) _ _ refl refl)))))))

-- a token has a byte or more
pub first_found-one : (b : ℕ) (bs : List ℕ) → 1 ≤ (first_found (b ∷ bs)).1
first_found-one b bs =
    one_if (is_lower b) _ _ (λ e. run_begins goes_on b bs (goes_on_lower b e))
    (one_if (is_digit b) _ _ (λ e. run_begins is_joined b bs (is_joined_digit b e)) (sign_one b (b ∷ bs)))

same_by : (f g : List ℕ → List Token) (text : List ℕ) → ((rest : List ℕ) → length rest < length text → f rest ≡ g rest) → tokens_by f text ≡ tokens_by g text
same_by f g [] same = refl
same_by f g (b ∷ bs) same =
    let left = length-drop (first_found (b ∷ bs)).1 (b ∷ bs) in
    let one = first_found-one b bs in
    ap (λ (ts : List Token). (first_found (b ∷ bs)).0 ∷ ts) (same (drop (first_found (b ∷ bs)).1 (b ∷ bs)) (omega arith))

tokens_by-nil : (others : List ℕ → List Token) (text : List ℕ) → length text ≤ 0 → tokens_by others text ≡ []
tokens_by-nil others [] le = refl
tokens_by-nil others (b ∷ bs) le = absurd (omega arith)

enough : (m n : ℕ) (text : List ℕ) → length text ≤ m → length text ≤ n → first_tokens m text ≡ first_tokens n text
unfolding first_tokens
enough zero zero text p q = refl
enough zero (suc n) text p q = let short = after_gap-le text false in sym (tokens_by-nil (first_tokens n) (after_gap false text) (omega arith))
enough (suc m) zero text p q = let short = after_gap-le text false in tokens_by-nil (first_tokens m) (after_gap false text) (omega arith)
enough (suc m) (suc n) text p q =
    let short = after_gap-le text false in
    same_by (first_tokens m) (first_tokens n) (after_gap false text) (λ rest lt. enough m n rest (omega arith) (omega arith))

first_is : (n : ℕ) (text : List ℕ) → length text ≤ suc n → first_tokens (suc n) text ≡ tokens_by tokens (after_gap false text)
unfolding first_tokens tokens
first_is n text le =
    let short = after_gap-le text false in
    same_by (first_tokens n) tokens (after_gap false text) (λ rest lt. enough n (length rest) rest (omega arith) (omega arith))

list_of-there : (t : Read) (others : List Token) → IsThere t → list_of t others ≡ token_of t ∷ others
list_of-there (read.Key keyword) others there = refl
list_of-there (read.Name text) others there = refl
list_of-there read.Dotted others there = refl
list_of-there (read.Number value) others there = refl
list_of-there (read.Mark s) others there = refl
list_of-there read.Stray others there = refl
list_of-there read.End others there = absurd there

-- the tokens of a text are the first, and those of what follows it
pub tokens_is : (text : List ℕ) → tokens text ≡ tokens_by tokens (after_gap false text)
unfolding tokens
tokens_is text = enough (length text) (suc (length text)) text (omega arith) (omega arith) ∙ first_is (length text) text (omega arith)

-- a text has no more tokens than bytes
few_by : (n : ℕ) (text : List ℕ) → ((rest : List ℕ) → length (first_tokens n rest) ≤ n) → length (tokens_by (first_tokens n) text) ≤ suc n
few_by n [] few_others = omega arith
few_by n (b ∷ bs) few_others = omega (arith, few_others (drop (first_found (b ∷ bs)).1 (b ∷ bs)))

few : (n : ℕ) (text : List ℕ) → length (first_tokens n text) ≤ n
unfolding first_tokens
few zero text = omega arith
few (suc n) text = few_by n (after_gap false text) (few n)

pub length-tokens : (text : List ℕ) → length (tokens text) ≤ length text
unfolding tokens
length-tokens text = few (length text) text

pub tokens_none : (text : List ℕ) → length text ≡ 0 → tokens_by tokens text ≡ []
tokens_none text e = tokens_by-nil tokens text (omega arith)

-- where a token that was read is the first
pub tokens_some : (t : Read) (text : List ℕ) → 0 < length text → IsThere t → token_of t ≡ (first_found text).0
    → list_of t (tokens (drop (first_found text).1 text)) ≡ tokens_by tokens text
tokens_some t [] lt there e = absurd (omega arith)
tokens_some t (b ∷ bs) lt there e = list_of-there t (tokens (drop (first_found (b ∷ bs)).1 (b ∷ bs))) there ∙ rw e refl

-- GAPS, byte by byte

from_cons : (c : Bool) (text : List ℕ) (b : ℕ) (bs : List ℕ) → text ≡ b ∷ bs → after_gap c text ≡ gap_from (gap_step c b) text (λ c'. after_gap c' bs)
unfolding after_gap
from_cons c text b bs e = rw e refl

pub gap_stops : (c : Bool) (i : ℕ) (text : List ℕ) → i < length text → gap_step c (get_or text i 0) ≡ None → after_gap c (drop i text) ≡ drop i text
gap_stops c i text lt e = from_cons c (drop i text) (get_or text i 0) (drop (suc i) text) (drop-cons text i 0 lt) ∙ rw e refl

pub gap_goes_on : (c c' : Bool) (i : ℕ) (text : List ℕ) → i < length text → gap_step c (get_or text i 0) ≡ Some c'
    → after_gap c' (drop (i + 1) text) ≡ after_gap c (drop i text)
gap_goes_on c c' i text lt e = rw add-one (sym (from_cons c (drop i text) (get_or text i 0) (drop (suc i) text) (drop-cons text i 0 lt) ∙ rw e refl))

pub gap_end : (c : Bool) (text : List ℕ) → after_gap c (drop (length text) text) ≡ []
unfolding after_gap
gap_end c text = rw (drop-length text) refl
