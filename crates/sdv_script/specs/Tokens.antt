-- The tokens of a text: words, numbers and signs, of which the longest that can begin at a place is taken. Blanks and
-- comments stand between tokens. A character that can begin no token, and digits that are no number, are stray: no
-- script has a stray token, and what follows one does not count.
use Rattle.std.specs.Prelude.{ℕ, zero, suc, ◌+◌, ◌*◌, ◌-◌, ◌^◌, List, [], ◌∷◌, length, take, drop, Bool, true, false, ◌&&◌, ◌||◌, ◌==◌, nat_lt, nat_le, not, find, take_while, min, slice_index, Option, Some, None, if◌then◌else◌}
use Rattle.std.specs.List.{list_all, list_any}
use Rattle.sdv_script.specs.declared.keyword.Keyword.{Keyword}
use Rattle.sdv_script.specs.declared.token.Sign.{Sign}
use Rattle.sdv_script.specs.declared.token.Sign.TheVariants as sign
use Rattle.sdv_script.specs.Keywords.{keywords, is_text}

pub data Token : Type 0 where
  -- a reserved word
  Key : (keyword : Keyword) → Token
  -- a word that is not reserved and has no dot
  Name : (text : List ℕ) → Token
  -- a word that is not reserved and has a dot
  Dotted : Token
  -- a number; one above 2^40 counts as 2^40 + 1, and no script has it
  Number : (value : ℕ) → Token
  Mark : (sign : Sign) → Token
  Stray : Token

-- CHARACTERS

abbrev pub is_between : ℕ → ℕ → ℕ → Bool
is_between low high b = nat_le low b && nat_le b high

-- a space, a tab, CR or LF
abbrev pub is_blank : ℕ → Bool
is_blank b = (b == 32) || (b == 9) || (b == 13) || (b == 10)

-- a to z
abbrev pub is_lower : ℕ → Bool
is_lower b = is_between 97 122 b

-- 0 to 9
abbrev pub is_digit : ℕ → Bool
is_digit b = is_between 48 57 b

-- what a word may go on with: a to z, 0 to 9, `_` and `.`
abbrev pub goes_on : ℕ → Bool
goes_on b = is_lower b || is_digit b || (b == 95) || (b == 46)

-- what may not follow a number at once: also A to Z
abbrev pub is_joined : ℕ → Bool
is_joined b = goes_on b || is_between 65 90 b

-- WHERE A TOKEN ENDS

-- how many bytes at the front pass a test
abbrev pub run : (ℕ → Bool) → List ℕ → ℕ
run test bs = length (take_while test bs)

-- whether a comment goes on after a byte, where one went on before it or did not; none where the byte begins a token
abbrev pub gap_step : (in_comment : Bool) → ℕ → Option Bool
gap_step true b = Some (not (b == 10))
gap_step false b = if b == 35 then Some true else (if is_blank b then Some false else None)

abbrev pub gap_from : Option Bool → List ℕ → (Bool → List ℕ) → List ℕ
gap_from None here further = here
gap_from (Some in_comment) here further = further in_comment

-- what follows blanks and comments; a comment goes from `#` to the end of the line
unfoldable pub after_gap : (in_comment : Bool) → List ℕ → List ℕ
after_gap in_comment [] = []
after_gap in_comment (b ∷ bs) = gap_from (gap_step in_comment b) (b ∷ bs) (λ in_comment'. after_gap in_comment' bs)

-- NUMBERS

-- the value of a digit of either case; 16 and more where it is none
abbrev pub digit_value : ℕ → ℕ
digit_value b =
    if is_digit b then b - 48 else (if is_between 97 102 b then b - 87 else (if is_between 65 70 b then b - 55 else 16))

abbrev pub has_value_below : ℕ → ℕ → Bool
has_value_below base b = nat_lt (digit_value b) base

-- the number that digits spell after what stands before them
unfoldable pub number_after : (base before : ℕ) → List ℕ → ℕ
number_after base before [] = before
number_after base before (b ∷ bs) = number_after base (before * base + digit_value b) bs

abbrev pub number_token : ℕ → Token
number_token n = Number (min n (2 ^ 40 + 1))

-- digits of a base, one or more
abbrev pub digits_token : ℕ → List ℕ → Token
digits_token base digits =
    if nat_lt 0 (length digits) && list_all (has_value_below base) digits then number_token
    (number_after base 0 digits) else Stray

-- decimal digits, or `0x` and hexadecimal digits
abbrev pub figure : List ℕ → Token
figure text =
    if (slice_index text 0 == 48) && (slice_index text 1 == 120) then digits_token 16
    (drop 2 text) else digits_token 10 text

-- WORDS

abbrev pub has_dot : List ℕ → Bool
has_dot text = list_any (λ b. b == 46) text

abbrev pub name_or_dotted : List ℕ → Token
name_or_dotted text = if has_dot text then Dotted else Name text

abbrev pub key_or : Option Keyword → Token → Token
key_or (Some keyword) other = Key keyword
key_or None other = other

unfoldable pub word : List ℕ → Token
word text = key_or (find (λ k. is_text k text) keywords) (name_or_dotted text)

-- THE FIRST TOKEN of a text that begins with no blank and no comment, and how many bytes it has

abbrev pub Found : Type 0
Found = Token × ℕ

abbrev pub sign_at : ℕ → List ℕ → Found
sign_at first text =
    if first == 123 then (Mark sign.OpenBrace, 1) else (
    if first == 125 then (Mark sign.CloseBrace, 1) else (
    if first == 61 then (Mark sign.Equals, 1) else (
    if first == 43 then (Mark sign.Plus, 1) else (
    if first == 45 then (Mark sign.Minus, 1) else (
    if first == 60 then (Mark sign.Below, 1) else (
    if first == 38 then (Mark sign.And, 1) else (
    if (first == 62) && (slice_index text 1 == 61) then (Mark sign.AtLeast, 2) else (Stray, 1))))))))

abbrev pub piece : (List ℕ → Token) → ℕ → List ℕ → Found
piece read n text = (read (take n text), n)

abbrev pub found_at : (first : ℕ) → List ℕ → Found
found_at first text =
    if is_lower first then piece word (run goes_on text) text
    else (if is_digit first then piece figure (run is_joined text) text else sign_at first text)

-- the first token of a text that has one
abbrev pub first_found : List ℕ → Found
first_found text = found_at (slice_index text 0) text

-- THE TOKENS of a text

-- a token, and those of what follows it
abbrev pub tokens_by : (List ℕ → List Token) → List ℕ → List Token
tokens_by others [] = []
tokens_by others (b ∷ bs) = (first_found (b ∷ bs)).0 ∷ others (drop (first_found (b ∷ bs)).1 (b ∷ bs))

-- the first n tokens
unfoldable pub first_tokens : ℕ → List ℕ → List Token
first_tokens zero text = []
first_tokens (suc n) text = tokens_by (first_tokens n) (after_gap false text)

-- a text has no more tokens than bytes
unfoldable pub tokens : List ℕ → List Token
tokens text = first_tokens (length text) text
