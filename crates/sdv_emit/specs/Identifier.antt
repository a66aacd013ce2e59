-- IDENTIFIERS of C, for an array in a text that includes `stddef.h` and `stdint.h`: ISO/IEC 9899:1999, sections 6.4.1
-- (keywords), 6.4.2 (identifiers), 7.1.3 (names that are reserved), 7.17 and 7.18 (the names of the headers) and 7.26.8 (the
-- names that `stdint.h` may add).
use Rattle.std.specs.Prelude.{ℕ, List, [], ◌∷◌, Bool, true, false, ◌==◌, ◌||◌, ◌&&◌, nat_eq, nat_le, if◌then◌else◌}
use Rattle.std.specs.List.{ends_with, list_all, list_any, starts_with}
use Rattle.std.specs.Str.{bytes_eq}
use Rattle.sdv_emit.specs.declared.identifier.TheConstants.{KEYWORDS, OTHER_NAMES, SIGNED_TYPE, UNSIGNED_TYPE, TYPE_END, SIGNED_MACRO, UNSIGNED_MACRO, LEAST_END, MOST_END, CONSTANT_END}

-- KEYWORDS of C99

abbrev pub is_keyword : List ℕ → Bool
is_keyword name = list_any (λ keyword. bytes_eq keyword.now name) KEYWORDS

-- TAKEN by C, though they are identifiers

-- Two underscores in front, or one and a capital letter, are the implementation's. A text has the name of its array with
-- `_words` behind it too: with that an underscore alone has two in front.
abbrev pub is_reserved : List ℕ → Bool
is_reserved [] = false
is_reserved (a ∷ []) = a == 95
is_reserved (a ∷ b ∷ bs) = (a == 95) && ((b == 95) || (nat_le 65 b && nat_le b 90))

abbrev pub begins_and_ends : (front back name : List ℕ) → Bool
begins_and_ends front back name = starts_with nat_eq name front && ends_with nat_eq name back

-- `int8_t`, `uint_fast16_t`, ..
abbrev pub is_integer_type : List ℕ → Bool
is_integer_type name =
    begins_and_ends SIGNED_TYPE.now TYPE_END.now name || begins_and_ends UNSIGNED_TYPE.now TYPE_END.now name

-- `INT8_MIN`, `UINT32_C`, .. begin so
abbrev pub is_integer_macro : (front name : List ℕ) → Bool
is_integer_macro front name =
    begins_and_ends front LEAST_END.now name
    || (begins_and_ends front MOST_END.now name || begins_and_ends front CONSTANT_END.now name)

-- the other names of the two headers, and the function that a program begins with
abbrev pub is_other_name : List ℕ → Bool
is_other_name name = list_any (λ other. bytes_eq other.now name) OTHER_NAMES

abbrev pub is_in_headers : List ℕ → Bool
is_in_headers name =
    is_integer_type name
    || (is_integer_macro SIGNED_MACRO.now name || (is_integer_macro UNSIGNED_MACRO.now name || is_other_name name))

abbrev pub is_taken : List ℕ → Bool
is_taken name = is_keyword name || (is_reserved name || is_in_headers name)

-- THE OTHERS

-- a letter of ASCII or `_`
abbrev pub is_first : ℕ → Bool
is_first b = (nat_le 65 b && nat_le b 90) || ((nat_le 97 b && nat_le b 122) || (b == 95))

-- or a digit
abbrev pub is_further : ℕ → Bool
is_further b = (nat_le 48 b && nat_le b 57) || is_first b

-- an identifier that an array can have
abbrev pub is_identifier : List ℕ → Bool
is_identifier [] = false
is_identifier (b ∷ bs) = is_first b && (list_all is_further bs && (if is_taken (b ∷ bs) then false else true))
