-- The text of a table is read as its words.
use Rattle.std.proofs.Common.{◌≡◌, ℕ, ◌+◌, ◌≤◌, true, List, [], ◌∷◌, ◌++◌, length, slice_index, ◌<◌, ◌^◌, Some, refl, ap, ◌∙◌, subst, sym, append_assoc}
use Rattle.std.specs.List.{list_all}
use Rattle.std.proofs.lemmas.Nat.{from_le_bytes-to_le_bytes_4}
use Rattle.sdv_graph.specs.Graph.{Graph}
use Rattle.sdv_table.specs.Table.{header_size}
use Rattle.sdv_emit.specs.Identifier.{is_identifier}
use Rattle.sdv_emit.specs.CText.{Text, comment, title, promise, top, declaration, array_text, count_text, c_text, little_endian}
use Rattle.sdv_emit.specs.Reading.{Code, uncommented, is_outside, read, read_array, words_in, words_of_bytes}
use Rattle.sdv_emit.specs.declared.array.TheConstants.{INCLUDES, ARRAY_START, COUNT, COUNT_IS, DIVIDED_BY, FIRST_WORD}
use Rattle.sdv_emit.proofs.Bytes.{is_code, kept, read_over, all_outside, name_is_code, name_is_outside}
use Rattle.sdv_emit.proofs.Comments.{comment_is_space}
use Rattle.sdv_emit.proofs.Constants.{AreWords, are_words, inside}
use Rattle.sdv_emit.proofs.Arrays.{array_read}

-- THE TEXT BEFORE THE WORDS

before_kept : (xs rest : Text) → list_all is_code xs ≡ true → list_all is_outside xs ≡ true → words_in (xs ++ rest) ≡ words_in rest
before_kept xs rest code outside = ap read (kept xs rest code) ∙ read_over xs (uncommented Code rest) outside

promise_skipped : (rest : Text) → words_in (promise ++ rest) ≡ words_in rest
unfolding uncommented read
promise_skipped rest = refl

space_skipped : (rest : Text) → read (32 ∷ rest) ≡ read rest
unfolding read
space_skipped rest = refl

top_skipped : (file : Text) (bound : ℕ) (rest : Text) → words_in (top file bound ++ rest) ≡ words_in rest
top_skipped file bound rest =
    ap words_in (append_assoc (comment (title file bound)) promise rest)
    ∙ (ap read (comment_is_space (title file bound) (promise ++ rest))
    ∙ (space_skipped (uncommented Code (promise ++ rest)) ∙ promise_skipped rest))

array_begun : (rest : Text) → words_in (ARRAY_START.now ++ rest) ≡ inside rest
unfolding uncommented read read_array
array_begun rest = refl

declaration_read : (name rest : Text) → is_identifier name ≡ true → words_in (declaration name ++ rest) ≡ inside rest
declaration_read name rest is =
    ap words_in (append_assoc INCLUDES.now (name ++ ARRAY_START.now) rest)
    ∙ (before_kept INCLUDES.now ((name ++ ARRAY_START.now) ++ rest) refl refl
    ∙ (ap words_in (append_assoc name ARRAY_START.now rest)
    ∙ (before_kept name (ARRAY_START.now ++ rest) (name_is_code name is) (name_is_outside name is) ∙ array_begun rest)))

-- BEHIND THE ARRAY

-- neither a brace nor a quote
abbrev Behind : Text → Type 0
Behind text = list_all is_outside (uncommented Code text) ≡ true

behind_kept : (xs rest : Text) → list_all is_code xs ≡ true → list_all is_outside xs ≡ true → Behind rest → Behind (xs ++ rest)
behind_kept xs rest code outside behind =
    subst (λ (t : Text). list_all is_outside t ≡ true) (sym (kept xs rest code)) (all_outside xs (uncommented Code rest) outside behind)

-- the slash divides
slash_behind : (rest : Text) → Behind rest → Behind (DIVIDED_BY.now ++ rest)
unfolding uncommented
slash_behind rest behind = behind

count_ended : Behind FIRST_WORD.now
unfolding uncommented
count_ended = refl

count_behind : (name : Text) → is_identifier name ≡ true → Behind (count_text name)
count_behind name is =
    let named : (rest : Text) → Behind rest → Behind (name ++ rest) =
    λ rest behind. behind_kept name rest (name_is_code name is) (name_is_outside name is) behind in
    let part : Text = DIVIDED_BY.now ++ (name ++ FIRST_WORD.now) in
    let whole : Text = COUNT_IS.now ++ (name ++ part) in
    behind_kept COUNT.now (name ++ whole) refl refl
    (named whole
    (behind_kept COUNT_IS.now (name ++ part) refl refl
    (named part (slash_behind (name ++ FIRST_WORD.now) (named FIRST_WORD.now count_ended)))))

-- THE TEXT

pub text_read : (file name : Text) (bound : ℕ) (g : Graph) (ws : List ℕ) → is_identifier name ≡ true → ((i : ℕ) → slice_index ws i < 2 ^ 32)
    → header_size + length g.points ≤ length ws → words_in (c_text file name bound g ws) ≡ Some ws
unfolding c_text
text_read file name bound g ws is each room =
    let array : Text = array_text g ws ++ count_text name in
    ap words_in (append_assoc (top file bound) (declaration name) array)
    ∙ (top_skipped file bound (declaration name ++ array)
    ∙ (declaration_read name array is ∙ array_read g ws (count_text name) (are_words ws each) room (count_behind name is)))

-- ITS BYTES

bytes_each : (ws : List ℕ) → AreWords ws → words_of_bytes (little_endian ws) ≡ ws
unfolding words_of_bytes
bytes_each [] are = refl
bytes_each (w ∷ ws) are =
    ap (λ (v : ℕ). v ∷ words_of_bytes (little_endian ws)) (from_le_bytes-to_le_bytes_4 w are.0)
    ∙ ap (λ (l : List ℕ). w ∷ l) (bytes_each ws are.1)

pub bytes_read : (ws : List ℕ) → ((i : ℕ) → slice_index ws i < 2 ^ 32) → words_of_bytes (little_endian ws) ≡ ws
bytes_read ws each = bytes_each ws (are_words ws each)
