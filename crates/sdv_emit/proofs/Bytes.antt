-- Bytes that are read as they stand: those of no comment, and those that may stand outside of the array.
use Rattle.std.proofs.Common.{◌≡◌, ℕ, zero, suc, ◌/◌, ◌%◌, ◌==◌, Bool, true, false, List, [], ◌∷◌, ◌++◌, slice_index, refl, sym, ap, ◌∙◌}
use Rattle.std.specs.Prelude.{not, if◌then◌else◌}
use Rattle.std.proofs.lemmas.Bool.{ne_eqb, and_parts, and_from}
use Rattle.std.specs.List.{list_all}
use Rattle.hex.specs.Hex.{lower_digits, encode_lower, encode_with}
use Rattle.sdv_emit.specs.CText.{Text}
use Rattle.sdv_emit.specs.Identifier.{is_first, is_further, is_identifier}
use Rattle.sdv_emit.specs.Reading.{Comment, Code, uncommented, is_outside, read}

-- a byte that passes a test is none that fails it
pub differs : (test : ℕ → Bool) (b n : ℕ) → test b ≡ true → test n ≡ false → (b == n) ≡ false
differs test b n passes fails = ne_eqb b n (λ same. let both : true ≡ false = sym passes ∙ (ap test same ∙ fails) in absurd cc)

-- a text whose bytes pass a test passes each test that follows from it
all_pass : (test weaker : ℕ → Bool) → ((b : ℕ) → test b ≡ true → weaker b ≡ true) → (xs : Text) → list_all test xs ≡ true → list_all weaker xs ≡ true
all_pass test weaker follows [] all = refl
all_pass test weaker follows (x ∷ xs) all =
    let both = and_parts (test x) (list_all test xs) all in
    and_from (weaker x) (list_all weaker xs) (follows x both.0) (all_pass test weaker follows xs both.1)

-- NO SLASH

abbrev pub is_code : ℕ → Bool
is_code b = not (b == 47)

code_byte : (b : ℕ) (rest : Text) → is_code b ≡ true → uncommented Code (b ∷ rest) ≡ b ∷ uncommented Code rest
unfolding uncommented
code_byte b rest is = rw (differs is_code b 47 is refl) refl

-- outside of comments they stand for themselves
pub kept : (xs rest : Text) → list_all is_code xs ≡ true → uncommented Code (xs ++ rest) ≡ xs ++ uncommented Code rest
kept [] rest all = refl
kept (x ∷ xs) rest all =
    let both = and_parts (is_code x) (list_all is_code xs) all in
    code_byte x (xs ++ rest) both.0 ∙ ap (λ (t : Text). x ∷ t) (kept xs rest both.1)

-- HEXADECIMAL DIGITS: no star and no slash

abbrev is_quiet : ℕ → Bool
is_quiet b = if b == 42 then false else (if b == 47 then false else true)

-- a place behind the end has 0
item_passes : (test : ℕ → Bool) (xs : List ℕ) → list_all test xs ≡ true → test 0 ≡ true → (k : ℕ) → test (slice_index xs k) ≡ true
item_passes test [] all none k = none
item_passes test (x ∷ xs) all none zero = (and_parts (test x) (list_all test xs) all).0
item_passes test (x ∷ xs) all none (suc k) = item_passes test xs (and_parts (test x) (list_all test xs) all).1 none k

digit_is_quiet : (k : ℕ) → is_quiet (slice_index lower_digits k) ≡ true
digit_is_quiet k = item_passes is_quiet lower_digits refl refl k

pub digits_kept : (bytes : List ℕ) (rest : Text) → uncommented Code (encode_lower bytes ++ rest) ≡ encode_lower bytes ++ uncommented Code rest
unfolding encode_with
digits_kept [] rest = refl
digits_kept (b ∷ bytes) rest =
    code_byte (slice_index lower_digits (b / 16)) (slice_index lower_digits (b % 16) ∷ (encode_lower bytes ++ rest)) (item_passes is_code lower_digits refl refl (b / 16))
    ∙ ap (λ (t : Text). slice_index lower_digits (b / 16) ∷ t)
    (code_byte (slice_index lower_digits (b % 16)) (encode_lower bytes ++ rest) (item_passes is_code lower_digits refl refl (b % 16))
    ∙ ap (λ (t : Text). slice_index lower_digits (b % 16) ∷ t) (digits_kept bytes rest))

-- a byte of a comment that is no star
pub in_comment : (b : ℕ) (rest : Text) → (b == 42) ≡ false → uncommented Comment (b ∷ rest) ≡ uncommented Comment rest
unfolding uncommented
in_comment b rest other = rw other refl

pub digits_in_comment : (bytes : List ℕ) (rest : Text) → uncommented Comment (encode_lower bytes ++ rest) ≡ uncommented Comment rest
unfolding encode_with
digits_in_comment [] rest = refl
digits_in_comment (b ∷ bytes) rest =
    in_comment (slice_index lower_digits (b / 16)) (slice_index lower_digits (b % 16) ∷ (encode_lower bytes ++ rest))
    (differs is_quiet (slice_index lower_digits (b / 16)) 42 (digit_is_quiet (b / 16)) refl)
    ∙ (in_comment (slice_index lower_digits (b % 16)) (encode_lower bytes ++ rest)
    (differs is_quiet (slice_index lower_digits (b % 16)) 42 (digit_is_quiet (b % 16)) refl)
    ∙ digits_in_comment bytes rest)

-- OUTSIDE OF THE ARRAY

outside_byte : (b : ℕ) (rest : Text) → is_outside b ≡ true → read (b ∷ rest) ≡ read rest
unfolding read
outside_byte b rest is = rw (is, differs is_outside b 123 is refl) refl

pub read_over : (xs rest : Text) → list_all is_outside xs ≡ true → read (xs ++ rest) ≡ read rest
read_over [] rest all = refl
read_over (x ∷ xs) rest all =
    let both = and_parts (is_outside x) (list_all is_outside xs) all in
    outside_byte x (xs ++ rest) both.0 ∙ read_over xs rest both.1

pub all_outside : (xs rest : Text) → list_all is_outside xs ≡ true → list_all is_outside rest ≡ true → list_all is_outside (xs ++ rest) ≡ true
all_outside [] rest all further = further
all_outside (x ∷ xs) rest all further =
    let both = and_parts (is_outside x) (list_all is_outside xs) all in
    and_from (is_outside x) (list_all is_outside (xs ++ rest)) both.0 (all_outside xs rest both.1 further)

-- NAMES

further_is_code : (b : ℕ) → is_further b ≡ true → is_code b ≡ true
further_is_code b is = rw (differs is_further b 47 is refl) refl

further_is_outside : (b : ℕ) → is_further b ≡ true → is_outside b ≡ true
further_is_outside b is =
    rw (differs is_further b 34 is refl, differs is_further b 39 is refl, differs is_further b 123 is refl, differs is_further b 125 is refl) refl

first_is_code : (b : ℕ) → is_first b ≡ true → is_code b ≡ true
first_is_code b is = rw (differs is_first b 47 is refl) refl

first_is_outside : (b : ℕ) → is_first b ≡ true → is_outside b ≡ true
first_is_outside b is =
    rw (differs is_first b 34 is refl, differs is_first b 39 is refl, differs is_first b 123 is refl, differs is_first b 125 is refl) refl

name_passes : (test : ℕ → Bool) → ((b : ℕ) → is_first b ≡ true → test b ≡ true) → ((b : ℕ) → is_further b ≡ true → test b ≡ true)
    → (name : Text) → is_identifier name ≡ true → list_all test name ≡ true
name_passes test first further [] is = refl
name_passes test first further (b ∷ name) is =
    let front = and_parts (is_first b) _ is in
    let rest = and_parts (list_all is_further name) _ front.1 in
    and_from (test b) (list_all test name) (first b front.0) (all_pass is_further test further name rest.0)

pub name_is_code : (name : Text) → is_identifier name ≡ true → list_all is_code name ≡ true
name_is_code name is = name_passes is_code first_is_code further_is_code name is

pub name_is_outside : (name : Text) → is_identifier name ≡ true → list_all is_outside name ≡ true
name_is_outside name is = name_passes is_outside first_is_outside further_is_outside name is
