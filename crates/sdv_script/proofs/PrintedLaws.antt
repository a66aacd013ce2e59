-- What is printed of a text has the tokens of the text, written the same.
use Rattle.std.proofs.Common.{◌≡◌, ℕ, zero, suc, ◌-◌, ◌<◌, ◌≤◌, Bool, true, false, List, [], ◌∷◌, ◌++◌, length, take, drop, refl, sym, subst, ap, ◌∙◌, arith, cond, eqb, ◌&&◌, slice_index, length-drop, Option, Some, None}
use Rattle.std.specs.List.{take_while}
use Rattle.std.proofs.Math.Seq.{take-append_seam, drop-append_seam}
use Rattle.std.proofs.lemmas.List.{length-take-le}
use Rattle.std.proofs.lemmas.List.Folds.{length-prefix_len}
use Rattle.std.proofs.lemmas.List.Sums.{take_while-cons, prefix_len-le-length}
use Rattle.sdv_script.specs.declared.token.Sign.{Sign}
use Rattle.sdv_script.specs.declared.token.Sign.TheVariants as sign
use Rattle.sdv_script.specs.Tokens.{Token, Mark, Stray, Found, is_lower, is_digit, goes_on, is_joined, run, word, figure, sign_at, piece, found_at, first_found, gap_step, gap_from, after_gap, tokens_by, tokens}
use Rattle.sdv_script.specs.Printed.{pieces_by, pieces, printed_pieces, printed}
use Rattle.sdv_script.specs.Rules.{max_bytes}
use Rattle.sdv_script.specs.Script.{Parsed, IsScript}
use Rattle.sdv_script.proofs.WhereRead.{both}
use Rattle.sdv_script.proofs.TokensLaws.{first_found-one, tokens_is, after_gap-le}
use Rattle.sdv_script.proofs.PieceLaws.{pieces_is}

-- RUNS: what a byte that fails the test follows

run_ends_by : (t : Bool) (test : ℕ → Bool) (b c : ℕ) (w others : List ℕ) → test b ≡ t → test c ≡ false → take_while test (w ++ c ∷ others) ≡ w
    → take_while test (cond t (b ∷ w) [] ++ c ∷ others) ≡ cond t (b ∷ w) []
run_ends_by true test b c w others is fails same = take_while-cons test b (w ++ c ∷ others) ∙ rw (is, same) refl
run_ends_by false test b c w others is fails same = take_while-cons test c others ∙ rw fails refl

run_ends : (test : ℕ → Bool) (c : ℕ) (others bs : List ℕ) → test c ≡ false → take_while test (take_while test bs ++ c ∷ others) ≡ take_while test bs
run_ends test c others [] fails = take_while-cons test c others ∙ rw fails refl
run_ends test c others (b ∷ bs) fails =
    let first = take_while-cons test b bs in
    ap (λ (w : List ℕ). take_while test (w ++ c ∷ others)) first
    ∙ run_ends_by (test b) test b c (take_while test bs) others refl fails (run_ends test c others bs fails)
    ∙ sym first

taken_is : (test : ℕ → Bool) (text : List ℕ) → take (run test text) text ≡ take_while test text
taken_is test text = ap (λ (k : ℕ). take k text) (length-prefix_len test text)

abbrev spelled : (List ℕ → Token) → List ℕ → Found
spelled read w = (read w, length w)

piece_is : (test : ℕ → Bool) (read : List ℕ → Token) (text : List ℕ) → piece read (run test text) text ≡ spelled read (take_while test text)
piece_is test read text = ap (λ (w : List ℕ). (read w, run test text)) (taken_is test text)

-- TOKENS before a space

-- the token that a function finds stays, where a space follows it
abbrev Steady : (List ℕ → Found) → List ℕ → List ℕ → Type 0
Steady find text others = find (take (find text).1 text ++ 32 ∷ others) ≡ find text

piece_steady : (test : ℕ → Bool) (read : List ℕ → Token) (text others : List ℕ) → test 32 ≡ false → Steady (λ t. piece read (run test t) t) text others
piece_steady test read text others fails =
    let same : take_while test (take (run test text) text ++ 32 ∷ others) ≡ take_while test text
    = ap (λ (w : List ℕ). take_while test (w ++ 32 ∷ others)) (taken_is test text) ∙ run_ends test 32 others text fails in
    piece_is test read (take (run test text) text ++ 32 ∷ others) ∙ ap (λ (w : List ℕ). spelled read w) same ∙ sym (piece_is test read text)

steady_if : (t : Bool) (f g : List ℕ → Found) (text others : List ℕ) → Steady f text others → Steady g text others
    → Steady (λ x. cond t (f x) (g x)) text others
steady_if true f g text others p q = p
steady_if false f g text others p q = q

abbrev sign_of : Sign → List ℕ → Found
sign_of s text = (Mark s, 1)

abbrev at_least_if : Bool → Found
at_least_if t = cond t (Mark sign.AtLeast, 2) (Stray, 1)

abbrev comparison : ℕ → List ℕ → Found
comparison b text = at_least_if (eqb b 62 && eqb (slice_index text 1) 61)

and_false : (a : Bool) → (a && false) ≡ false
and_false true = refl
and_false false = refl

comparison_by : (t : Bool) (b : ℕ) (bs others : List ℕ) → (eqb b 62 && eqb (slice_index (b ∷ bs) 1) 61) ≡ t
    → comparison b (take (at_least_if t).1 (b ∷ bs) ++ 32 ∷ others) ≡ at_least_if t
comparison_by true b [] others e = (let p = both (eqb b 62) false e in absurd (cc))
comparison_by true b (c ∷ cs) others e = rw e refl
comparison_by false b bs others e = rw (and_false (eqb b 62)) refl

comparison_steady : (b : ℕ) (bs others : List ℕ) → Steady (comparison b) (b ∷ bs) others
comparison_steady b bs others =
    let t = eqb b 62 && eqb (slice_index (b ∷ bs) 1) 61 in
    comparison_by t b bs others refl

abbrev or_sign : ℕ → Sign → (ℕ → List ℕ → Found) → ℕ → List ℕ → Found
or_sign code s others b text = cond (eqb b code) (sign_of s text) (others b text)

abbrev from_and : ℕ → List ℕ → Found
from_and b text = or_sign 38 sign.And comparison b text

abbrev from_below : ℕ → List ℕ → Found
from_below b text = or_sign 60 sign.Below from_and b text

abbrev from_minus : ℕ → List ℕ → Found
from_minus b text = or_sign 45 sign.Minus from_below b text

abbrev from_plus : ℕ → List ℕ → Found
from_plus b text = or_sign 43 sign.Plus from_minus b text

abbrev from_equals : ℕ → List ℕ → Found
from_equals b text = or_sign 61 sign.Equals from_plus b text

abbrev from_close : ℕ → List ℕ → Found
from_close b text = or_sign 125 sign.CloseBrace from_equals b text

sign_steady : (b : ℕ) (bs others : List ℕ) → Steady (sign_at b) (b ∷ bs) others
sign_steady b bs others =
    steady_if (eqb b 123) (sign_of sign.OpenBrace) (from_close b) (b ∷ bs) others refl (
    steady_if (eqb b 125) (sign_of sign.CloseBrace) (from_equals b) (b ∷ bs) others refl (
    steady_if (eqb b 61) (sign_of sign.Equals) (from_plus b) (b ∷ bs) others refl (
    steady_if (eqb b 43) (sign_of sign.Plus) (from_minus b) (b ∷ bs) others refl (
    steady_if (eqb b 45) (sign_of sign.Minus) (from_below b) (b ∷ bs) others refl (
    steady_if (eqb b 60) (sign_of sign.Below) (from_and b) (b ∷ bs) others refl (
    steady_if (eqb b 38) (sign_of sign.And) (comparison b) (b ∷ bs) others refl (comparison_steady b bs others)))))))

abbrev figure_or_sign : ℕ → List ℕ → Found
figure_or_sign b text = cond (is_digit b) (piece figure (run is_joined text) text) (sign_at b text)

found_steady : (b : ℕ) (bs others : List ℕ) → Steady (found_at b) (b ∷ bs) others
found_steady b bs others =
    steady_if (is_lower b) (λ t. piece word (run goes_on t) t) (figure_or_sign b) (b ∷ bs) others (piece_steady goes_on word (b ∷ bs) others refl) (
    steady_if (is_digit b) (λ t. piece figure (run is_joined t) t) (sign_at b) (b ∷ bs) others (piece_steady is_joined figure (b ∷ bs) others refl)
    (sign_steady b bs others))

kept : (n b : ℕ) (bs others : List ℕ) → 1 ≤ n → take n (b ∷ bs) ++ others ≡ b ∷ (take (n - 1) bs ++ others)
kept zero b bs others one = absurd (omega arith)
kept (suc n) b bs others one = let e : suc n - 1 ≡ n = omega arith in rw e refl

-- the first token stays, where a space follows it
pub first_steady : (b : ℕ) (bs others : List ℕ) → Steady first_found (b ∷ bs) others
first_steady b bs others =
    let n = (first_found (b ∷ bs)).1 in
    let head = kept n b bs (32 ∷ others) (first_found-one b bs) in
    ap (λ (t : List ℕ). found_at (slice_index t 0) (take n (b ∷ bs) ++ 32 ∷ others)) head ∙ found_steady b bs others

-- HOW LONG the first token is

within_if : (t : Bool) (x y : Found) (most : ℕ) → x.1 ≤ most → (t ≡ false → y.1 ≤ most) → (cond t x y).1 ≤ most
within_if true x y most p q = p
within_if false x y most p q = q refl

comparison_within : (t : Bool) (b : ℕ) (bs : List ℕ) → (eqb b 62 && eqb (slice_index (b ∷ bs) 1) 61) ≡ t → (at_least_if t).1 ≤ length (b ∷ bs)
comparison_within true b [] e = (let p = both (eqb b 62) false e in absurd (cc))
comparison_within true b (c ∷ cs) e = omega arith
comparison_within false b bs e = omega arith

sign_within : (b : ℕ) (bs : List ℕ) → (sign_at b (b ∷ bs)).1 ≤ length (b ∷ bs)
sign_within b bs =
    within_if (eqb b 123) (Mark sign.OpenBrace, 1) _ (length (b ∷ bs)) (omega arith) (λ _.
    within_if (eqb b 125) (Mark sign.CloseBrace, 1) _ (length (b ∷ bs)) (omega arith) (λ _.
    within_if (eqb b 61) (Mark sign.Equals, 1) _ (length (b ∷ bs)) (omega arith) (λ _.
    within_if (eqb b 43) (Mark sign.Plus, 1) _ (length (b ∷ bs)) (omega arith) (λ _.
    within_if (eqb b 45) (Mark sign.Minus, 1) _ (length (b ∷ bs)) (omega arith) (λ _.
    within_if (eqb b 60) (Mark sign.Below, 1) _ (length (b ∷ bs)) (omega arith) (λ _.
    within_if (eqb b 38) (Mark sign.And, 1) _ (length (b ∷ bs)) (omega arith) (λ _.
    comparison_within (eqb b 62 && eqb (slice_index (b ∷ bs) 1) 61) b bs refl)))))))

run_within : (test : ℕ → Bool) (text : List ℕ) → run test text ≤ length text
run_within test text = rw (length-prefix_len test text) (prefix_len-le-length test text)

-- a token at the front of a text is no longer than the text
pub first_within : (b : ℕ) (bs : List ℕ) → (first_found (b ∷ bs)).1 ≤ length (b ∷ bs)
first_within b bs =
    within_if (is_lower b) _ _ (length (b ∷ bs)) (run_within goes_on (b ∷ bs)) (λ _.
    within_if (is_digit b) _ _ (length (b ∷ bs)) (run_within is_joined (b ∷ bs)) (λ _. sign_within b bs))

-- GAPS

gap_head_by : (step : Option Bool) (c : Bool) (x b : ℕ) (xs bs : List ℕ) → gap_step c x ≡ step
    → ((c' : Bool) → after_gap c' xs ≡ b ∷ bs → gap_step false b ≡ None)
    → gap_from step (x ∷ xs) (λ c'. after_gap c' xs) ≡ b ∷ bs → gap_step false b ≡ None
gap_head_by None true x b xs bs is later e = absurd (cc)
gap_head_by None false x b xs bs is later e = (let same : x ≡ b = cc in subst (λ (y : ℕ). gap_step false y ≡ None) same is)
gap_head_by (Some c') c x b xs bs is later e = later c' e

-- what follows a gap begins a token
gap_head : (text : List ℕ) (c : Bool) (b : ℕ) (bs : List ℕ) → after_gap c text ≡ b ∷ bs → gap_step false b ≡ None
unfolding after_gap
gap_head [] c b bs e = absurd (cc)
gap_head (x ∷ xs) c b bs e = gap_head_by (gap_step c x) c x b xs bs refl (λ c' later. gap_head xs c' b bs later) e

-- no gap stands before what is no gap
pub gap_here : (b : ℕ) (bs : List ℕ) → gap_step false b ≡ None → after_gap false (b ∷ bs) ≡ b ∷ bs
unfolding after_gap
gap_here b bs e = rw e refl

gap_space : (text : List ℕ) → after_gap false (32 ∷ text) ≡ after_gap false text
unfolding after_gap
gap_space text = refl

gap_line : after_gap false (10 ∷ []) ≡ []
unfolding after_gap
gap_line = refl

-- WHAT IS PRINTED

tokens_space : (text : List ℕ) → tokens (32 ∷ text) ≡ tokens text
tokens_space text = tokens_is (32 ∷ text) ∙ ap (λ (t : List ℕ). tokens_by tokens t) (gap_space text) ∙ sym (tokens_is text)

pieces_space : (text : List ℕ) → pieces (32 ∷ text) ≡ pieces text
pieces_space text = pieces_is (32 ∷ text) ∙ ap (λ (t : List ℕ). pieces_by pieces t) (gap_space text) ∙ sym (pieces_is text)

tokens_head : (b : ℕ) (bs : List ℕ) → gap_step false b ≡ None → tokens (b ∷ bs) ≡ (first_found (b ∷ bs)).0 ∷ tokens (drop (first_found (b ∷ bs)).1 (b ∷ bs))
tokens_head b bs e = tokens_is (b ∷ bs) ∙ ap (λ (t : List ℕ). tokens_by tokens t) (gap_here b bs e)

pieces_head : (b : ℕ) (bs : List ℕ) → gap_step false b ≡ None
    → pieces (b ∷ bs) ≡ take (first_found (b ∷ bs)).1 (b ∷ bs) ∷ pieces (drop (first_found (b ∷ bs)).1 (b ∷ bs))
pieces_head b bs e = pieces_is (b ∷ bs) ∙ ap (λ (t : List ℕ). pieces_by pieces t) (gap_here b bs e)

-- a piece, a space and others
record Piece (p others : List ℕ) (f : Found) : Type 0 where
  pub long : length p ≡ f.1
  pub same : first_found (p ++ 32 ∷ others) ≡ f
  pub there : (b : ℕ) × (bs : List ℕ) × (p ++ 32 ∷ others ≡ b ∷ bs) × (gap_step false b ≡ None)

first_piece : (b : ℕ) (bs others : List ℕ) → gap_step false b ≡ None → Piece (take (first_found (b ∷ bs)).1 (b ∷ bs)) others (first_found (b ∷ bs))
first_piece b bs others e =
    let n = (first_found (b ∷ bs)).1 in
    record {
      long = length-take-le n (b ∷ bs) (first_within b bs);
      same = first_steady b bs others;
      there = (b, take (n - 1) bs ++ 32 ∷ others, kept n b bs (32 ∷ others) (first_found-one b bs), e);
    }

piece_dropped : (p others : List ℕ) (f : Found) → Piece p others f → drop f.1 (p ++ 32 ∷ others) ≡ 32 ∷ others
piece_dropped p others f is = subst (λ (n : ℕ). drop n (p ++ 32 ∷ others) ≡ 32 ∷ others) is.long (drop-append_seam p (32 ∷ others))

piece_taken : (p others : List ℕ) (f : Found) → Piece p others f → take f.1 (p ++ 32 ∷ others) ≡ p
piece_taken p others f is = subst (λ (n : ℕ). take n (p ++ 32 ∷ others) ≡ p) is.long (take-append_seam p (32 ∷ others))

tokens_piece : (p others : List ℕ) (f : Found) → Piece p others f → tokens (p ++ 32 ∷ others) ≡ f.0 ∷ tokens others
tokens_piece p others f is =
    let all = p ++ 32 ∷ others in
    subst (λ (t : List ℕ). tokens t ≡ (first_found t).0 ∷ tokens (drop (first_found t).1 t)) (sym is.there.2) (tokens_head is.there.0 is.there.1 is.there.3)
    ∙ ap (λ (g : Found). g.0 ∷ tokens (drop g.1 all)) is.same
    ∙ ap (λ (t : List ℕ). f.0 ∷ tokens t) (piece_dropped p others f is)
    ∙ ap (λ (ts : List Token). f.0 ∷ ts) (tokens_space others)

pieces_piece : (p others : List ℕ) (f : Found) → Piece p others f → pieces (p ++ 32 ∷ others) ≡ p ∷ pieces others
pieces_piece p others f is =
    let all = p ++ 32 ∷ others in
    subst (λ (t : List ℕ). pieces t ≡ take (first_found t).1 t ∷ pieces (drop (first_found t).1 t)) (sym is.there.2)
    (pieces_head is.there.0 is.there.1 is.there.3)
    ∙ ap (λ (g : Found). take g.1 all ∷ pieces (drop g.1 all)) is.same
    ∙ ap (λ (t : List ℕ). take f.1 all ∷ pieces t) (piece_dropped p others f is)
    ∙ ap (λ (q : List ℕ). q ∷ pieces (32 ∷ others)) (piece_taken p others f is)
    ∙ ap (λ (ps : List (List ℕ)). p ∷ ps) (pieces_space others)

-- the same tokens, written the same
pub record Reads (text as_text : List ℕ) : Type 0 where
  pub tokens_same : tokens text ≡ tokens as_text
  pub pieces_same : pieces text ≡ pieces as_text

record ReadsBy (text gapless : List ℕ) : Type 0 where
  pub tokens_by_same : tokens text ≡ tokens_by tokens gapless
  pub pieces_by_same : pieces text ≡ pieces_by pieces gapless

printed_by : (text : List ℕ) → ((b : ℕ) (bs : List ℕ) → text ≡ b ∷ bs → gap_step false b ≡ None)
    → ((rest : List ℕ) → length rest < length text → Reads (printed rest) rest)
    → ReadsBy (printed_pieces (pieces_by pieces text)) text
printed_by [] begins later =
    record {
      tokens_by_same = tokens_is (10 ∷ []) ∙ ap (λ (t : List ℕ). tokens_by tokens t) gap_line;
      pieces_by_same = pieces_is (10 ∷ []) ∙ ap (λ (t : List ℕ). pieces_by pieces t) gap_line;
    }
printed_by (b ∷ bs) begins later =
    let f = first_found (b ∷ bs) in
    let rest = drop f.1 (b ∷ bs) in
    let one = first_found-one b bs in
    let left = length-drop f.1 (b ∷ bs) in
    let is = first_piece b bs (printed rest) (begins b bs refl) in
    let same : Reads (printed rest) rest = later rest (omega arith) in
    record {
      tokens_by_same = tokens_piece (take f.1 (b ∷ bs)) (printed rest) f is ∙ ap (λ (ts : List Token). f.0 ∷ ts) same.tokens_same;
      pieces_by_same = pieces_piece (take f.1 (b ∷ bs)) (printed rest) f is ∙ ap (λ (ps : List (List ℕ)). take f.1 (b ∷ bs) ∷ ps) same.pieces_same;
    }

printed_from : (text : List ℕ) → ((rest : List ℕ) → length rest < length text → Reads (printed rest) rest) → Reads (printed text) text
printed_from text later =
    let short = after_gap-le text false in
    let by = printed_by (after_gap false text) (gap_head text false) (λ rest less. later rest (omega arith)) in
    record {
      tokens_same = ap (λ (ps : List (List ℕ)). tokens (printed_pieces ps)) (pieces_is text) ∙ by.tokens_by_same ∙ sym (tokens_is text);
      pieces_same = ap (λ (ps : List (List ℕ)). pieces (printed_pieces ps)) (pieces_is text) ∙ by.pieces_by_same ∙ sym (pieces_is text);
    }

printed_within : (n : ℕ) (text : List ℕ) → length text ≤ n → Reads (printed text) text
printed_within zero text le = printed_from text (λ rest less. absurd (omega arith))
printed_within (suc n) text le = printed_from text (λ rest less. printed_within n rest (omega arith))

pub printed_reads : (text : List ℕ) → Reads (printed text) text
printed_reads text = printed_within (length text) text (omega arith)

-- what is printed, printed again
pub printed_again : (text : List ℕ) → printed (printed text) ≡ printed text
printed_again text = ap (λ (ps : List (List ℕ)). printed_pieces ps) (printed_reads text).pieces_same

-- what is printed of a script has its tree
pub printed_script : (s : Parsed) → IsScript s → length (printed s.text) ≤ max_bytes → IsScript (record s { text = printed s.text })
printed_script s is small = record { small = small; written = (printed_reads s.text).tokens_same ∙ is.written; fits = is.fits }
