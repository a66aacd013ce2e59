-- Words are read as they were printed.
use Rattle.std.proofs.Common.{◌≡◌, ℕ, zero, suc, ◌%◌, ◌^◌, ◌<◌, ◌==◌, Bool, true, false, List, [], ◌∷◌, ◌++◌, length, take, slice_index, Option, Some, Ok, refl, sym, ap, ◌∙◌, arith, take_at, append_assoc}
use Rattle.std.specs.Prelude.{if◌then◌else◌}
use Rattle.std.specs.Int.{w32, to_be_bytes}
use Rattle.std.proofs.lemmas.Nat.{from_be_bytes-to_be_bytes_4}
use Rattle.hex.specs.Hex.{IsBytes, lower_digits, encode_lower, decode_sized}
use Rattle.hex.proofs.HexLemmas.{decode_of-encode_lower, decode_sized-twice, length-encode_with}
use Rattle.sdv_emit.specs.CText.{Text, word_text, gap, word_lines, head_line, comment}
use Rattle.sdv_emit.specs.Reading.{Code, uncommented, Between, Digits, read_array, word_if, constant, with_word}
use Rattle.sdv_emit.specs.declared.words.TheConstants.{COMMA, LINE_START, SPACE}
use Rattle.sdv_emit.proofs.Bytes.{digits_kept}
use Rattle.sdv_emit.proofs.Comments.{comment_is_space}

-- each is a word of 32 bits
abbrev pub AreWords : List ℕ → Type 0
AreWords [] = Unit {0}
AreWords (w ∷ ws) = (w < 2 ^ 32) × AreWords ws

pub are_words : (ws : List ℕ) → ((i : ℕ) → slice_index ws i < 2 ^ 32) → AreWords ws
are_words [] each = tt
are_words (w ∷ ws) each = (each 0, are_words ws (λ i. each (suc i)))

-- ONE WORD

four : (n : ℕ) → IsBytes (to_be_bytes w32 n)
four n zero = omega arith
four n (suc zero) = omega arith
four n (suc (suc zero)) = omega arith
four n (suc (suc (suc zero))) = omega arith
four n (suc (suc (suc (suc i)))) = omega arith

abbrev digits : ℕ → Text
digits w = encode_lower (to_be_bytes w32 w)

digits_length : (w : ℕ) → length (digits w) ≡ 8
digits_length w = length-encode_with lower_digits (to_be_bytes w32 w)

constant_is : (w : ℕ) → w < 2 ^ 32 → constant (digits w) ≡ Some w
constant_is w lt =
    let decoded : decode_sized (digits w) 4 ≡ Ok (to_be_bytes w32 w) =
    decode_sized-twice (digits w) 4 (digits_length w) ∙ decode_of-encode_lower (to_be_bytes w32 w) (four w) in
    ap word_if decoded ∙ ap Some (from_be_bytes-to_be_bytes_4 w lt)

-- as many bytes as there are digits, and the comma
digits_passed : (xs rest : Text) → read_array (Digits (length xs)) (xs ++ 44 ∷ rest) ≡ read_array Between rest
unfolding read_array
digits_passed [] rest = refl
digits_passed (x ∷ xs) rest = digits_passed xs rest

at_digits : (rest : Text) → read_array Between (48 ∷ 120 ∷ rest) ≡ with_word (constant (take 8 rest)) (read_array (Digits 8) rest)
unfolding read_array
at_digits rest = refl

word_spelled : (w : ℕ) (rest : Text) → w < 2 ^ 32
    → read_array Between (48 ∷ 120 ∷ (digits w ++ 44 ∷ rest)) ≡ with_word (Some w) (read_array Between rest)
word_spelled w rest lt =
    let behind : read_array (Digits 8) (digits w ++ 44 ∷ rest) ≡ read_array Between rest =
    ap (λ (n : ℕ). read_array (Digits n) (digits w ++ 44 ∷ rest)) (sym (digits_length w)) ∙ digits_passed (digits w) rest in
    at_digits (digits w ++ 44 ∷ rest)
    ∙ (ap (λ (t : Text). with_word (constant t) (read_array (Digits 8) (digits w ++ 44 ∷ rest))) (take_at (digits w) (44 ∷ rest) 8 (digits_length w))
    ∙ (ap (λ (o : Option ℕ). with_word o (read_array (Digits 8) (digits w ++ 44 ∷ rest))) (constant_is w lt) ∙ ap (with_word (Some w)) behind))

-- IN THE ARRAY, WITH ITS COMMENTS

abbrev pub inside : Text → Option (List ℕ)
inside rest = read_array Between (uncommented Code rest)

prefix_kept : (rest : Text) → uncommented Code (48 ∷ 120 ∷ rest) ≡ 48 ∷ 120 ∷ uncommented Code rest
unfolding uncommented
prefix_kept rest = refl

comma_kept : (rest : Text) → uncommented Code (44 ∷ rest) ≡ 44 ∷ uncommented Code rest
unfolding uncommented
comma_kept rest = refl

pub word_read : (w : ℕ) (rest : Text) → w < 2 ^ 32 → inside (word_text w ++ rest) ≡ with_word (Some w) (inside rest)
word_read w rest lt =
    let text : uncommented Code (digits w ++ 44 ∷ rest) ≡ digits w ++ 44 ∷ uncommented Code rest =
    digits_kept (to_be_bytes w32 w) (44 ∷ rest) ∙ ap (λ (t : Text). digits w ++ t) (comma_kept rest) in
    ap (λ (t : Text). inside (48 ∷ 120 ∷ t)) (append_assoc (digits w) COMMA.now rest)
    ∙ (ap (read_array Between) (prefix_kept (digits w ++ 44 ∷ rest) ∙ ap (λ (t : Text). 48 ∷ 120 ∷ t) text)
    ∙ word_spelled w (uncommented Code rest) lt)

-- WORDS, EIGHT ON A LINE

-- these words before those behind them
abbrev pub with_words : List ℕ → Option (List ℕ) → Option (List ℕ)
with_words [] further = further
with_words (w ∷ ws) further = with_word (Some w) (with_words ws further)

pub with_words_is : (ws further : List ℕ) → with_words ws (Some further) ≡ Some (ws ++ further)
with_words_is [] further = refl
with_words_is (w ∷ ws) further = ap (with_word (Some w)) (with_words_is ws further)

gap_skipped : (line : Bool) (rest : Text) → inside ((if line then LINE_START.now else SPACE.now) ++ rest) ≡ inside rest
unfolding uncommented read_array
gap_skipped true rest = refl
gap_skipped false rest = refl

pub lines_read : (n : ℕ) (ws : List ℕ) (rest : Text) → AreWords ws → inside (word_lines n ws ++ rest) ≡ with_words ws (inside rest)
lines_read n [] rest are = refl
lines_read n (w ∷ ws) rest are =
    ap inside (append_assoc (gap n ++ word_text w) (word_lines (suc n) ws) rest)
    ∙ (ap inside (append_assoc (gap n) (word_text w) (word_lines (suc n) ws ++ rest))
    ∙ (gap_skipped (n % 8 == 0) (word_text w ++ (word_lines (suc n) ws ++ rest))
    ∙ (word_read w (word_lines (suc n) ws ++ rest) are.0 ∙ ap (with_word (Some w)) (lines_read (suc n) ws rest are.1))))

-- THE WORD OF A POINT

line_begun : (rest : Text) → inside (LINE_START.now ++ rest) ≡ inside rest
unfolding uncommented read_array
line_begun rest = refl

space_kept : (rest : Text) → uncommented Code (32 ∷ rest) ≡ 32 ∷ uncommented Code rest
unfolding uncommented
space_kept rest = refl

spaces_skipped : (rest : Text) → read_array Between (32 ∷ 32 ∷ rest) ≡ read_array Between rest
unfolding read_array
spaces_skipped rest = refl

comment_skipped : (about rest : Text) → inside (32 ∷ (comment about ++ rest)) ≡ inside rest
comment_skipped about rest =
    ap (read_array Between) (space_kept (comment about ++ rest) ∙ ap (λ (t : Text). 32 ∷ t) (comment_is_space about rest))
    ∙ spaces_skipped (uncommented Code rest)

pub head_read : (w : ℕ) (about rest : Text) → w < 2 ^ 32 → inside (head_line w about ++ rest) ≡ with_word (Some w) (inside rest)
head_read w about rest lt =
    line_begun ((word_text w ++ (SPACE.now ++ comment about)) ++ rest)
    ∙ (ap inside (append_assoc (word_text w) (SPACE.now ++ comment about) rest)
    ∙ (word_read w (32 ∷ (comment about ++ rest)) lt ∙ ap (with_word (Some w)) (comment_skipped about rest)))
