-- What a compiler of C READS in the text of a table: the words between the braces of its array; and what words the bytes of
-- a table are. ISO/IEC 9899:1999, sections 5.1.1.2 (translation phases), 6.4.4.1 (integer constants) and 6.4.9 (comments).
use Rattle.std.specs.Prelude.{ℕ, zero, suc, List, [], ◌∷◌, take, Bool, ◌==◌, ◌||◌, not, if◌then◌else◌, Option, Some, None, Result, Ok, Err}
use Rattle.std.specs.Int.{w32, from_be_bytes, from_le_bytes}
use Rattle.std.specs.List.{list_all}
use Rattle.hex.specs.declared.error.FromHexError.{FromHexError}
use Rattle.hex.specs.Hex.{decode_sized}
use Rattle.sdv_emit.specs.CText.{Text}

-- COMMENTS: each is read as one space

-- where a byte stands: outside of comments, behind a slash there, in a comment, behind a star in one, or behind two slashes
pub data Place : Type 0 where
  Code : Place
  Slash : Place
  Comment : Place
  Star : Place
  Line : Place

-- a slash that begins no comment divides; two slashes begin a comment up to the end of the line
unfoldable pub uncommented : Place → Text → Text
uncommented Code [] = []
uncommented Code (b ∷ bs) = if b == 47 then uncommented Slash bs else b ∷ uncommented Code bs
uncommented Slash [] = 47 ∷ []
uncommented Slash (b ∷ bs) =
    if b == 42 then 32 ∷ uncommented Comment bs
    else (if b == 47 then 32 ∷ uncommented Line bs else 47 ∷ b ∷ uncommented Code bs)
uncommented Comment [] = []
uncommented Comment (b ∷ bs) = if b == 42 then uncommented Star bs else uncommented Comment bs
uncommented Star [] = []
uncommented Star (b ∷ bs) =
    if b == 47 then uncommented Code bs else (if b == 42 then uncommented Star bs else uncommented Comment bs)
uncommented Line [] = []
uncommented Line (b ∷ bs) = if b == 10 then 10 ∷ uncommented Code bs else uncommented Line bs

-- THE ARRAY: `0x`, eight hexadecimal digits and a comma for each word, and nothing else but spaces and line feeds

-- where a byte of the array stands: between words, behind the `0` of one, or before so many of its digits and the comma
pub data Spot : Type 0 where
  Between : Spot
  Zero : Spot
  Digits : (left : ℕ) → Spot

abbrev pub word_if : Result (List ℕ) FromHexError → Option ℕ
word_if (Ok bytes) = Some (from_be_bytes w32 bytes)
word_if (Err fault) = None

-- the word of eight hexadecimal digits; none of other bytes
abbrev pub constant : (digits : Text) → Option ℕ
constant digits = word_if (decode_sized digits 4)

-- the word before those behind it, if all of them are read
abbrev pub with_word : Option ℕ → Option (List ℕ) → Option (List ℕ)
with_word (Some w) (Some ws) = Some (w ∷ ws)
with_word w ws = None

-- outside of the array there is no other brace, and no quote, in which slashes and braces would be read otherwise
abbrev pub is_outside : (byte : ℕ) → Bool
is_outside b = not ((b == 34) || ((b == 39) || ((b == 123) || (b == 125))))

abbrev pub ends : (behind : Text) → Option (List ℕ)
ends behind = if list_all is_outside behind then Some [] else None

-- the words from a spot on, up to the brace that ends the array
unfoldable pub read_array : Spot → Text → Option (List ℕ)
read_array spot [] = None
read_array Between (b ∷ bs) =
    if b == 48 then read_array Zero bs
    else (if (b == 32) || (b == 10) then read_array Between bs else (if b == 125 then ends bs else None))
read_array Zero (b ∷ bs) =
    if b == 120 then with_word (constant (take 8 bs)) (read_array (Digits 8) bs) else None
read_array (Digits zero) (b ∷ bs) = if b == 44 then read_array Between bs else None
read_array (Digits (suc left)) (b ∷ bs) = read_array (Digits left) bs

-- the first brace begins the array
unfoldable pub read : Text → Option (List ℕ)
read [] = None
read (b ∷ bs) = if b == 123 then read_array Between bs else (if is_outside b then read bs else None)

-- the words of the array of a text; none, if it is not written so
abbrev pub words_in : Text → Option (List ℕ)
words_in text = read (uncommented Code text)

-- BYTES: four of them a word, the lowest first
unfoldable pub words_of_bytes : List ℕ → List ℕ
words_of_bytes (a ∷ b ∷ c ∷ d ∷ bytes) = from_le_bytes w32 (a ∷ b ∷ c ∷ d ∷ []) ∷ words_of_bytes bytes
words_of_bytes bytes = []
