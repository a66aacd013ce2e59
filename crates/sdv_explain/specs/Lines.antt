-- The LINES of a text, and how one is shown: no control character reaches the screen, and a long line is cut on both
-- sides of a place.
use Rattle.std.specs.Prelude.{ℕ, zero, suc, ◌+◌, ◌-◌, List, [], ◌∷◌, ◌++◌, length, take, drop, flat_map, take_while, count_by, Bool, ◌&&◌, ◌||◌, ◌==◌, nat_lt, nat_le, not, codes, if◌then◌else◌}
use Rattle.std.specs.Str.{bytes_eq}

-- LINES

-- how many bytes the first line has, without its line feed
abbrev pub line_len : List ℕ → ℕ
line_len text = length (take_while (λ b. not (b == 10)) text)

-- what follows the first line and its line feed
abbrev pub behind_line : List ℕ → List ℕ
behind_line text = drop (line_len text + 1) text

-- what follows the first n lines
unfoldable pub from_line : ℕ → List ℕ → List ℕ
from_line zero text = text
from_line (suc n) text = behind_line (from_line n text)

-- the first line
abbrev pub front_line : List ℕ → List ℕ
front_line text = take (line_len text) text

-- the line with a number, counted from 1; behind the last line feed stands one more line, which may be empty
abbrev pub line_at : ℕ → List ℕ → List ℕ
line_at number text = front_line (from_line (number - 1) text)

-- a line without the carriage return before its line feed, if there is one
abbrev pub ends_in_return : List ℕ → Bool
ends_in_return line = bytes_eq (drop (length line - 1) line) (13 ∷ [])

abbrev pub without_return : List ℕ → List ℕ
without_return line = if ends_in_return line then take (length line - 1) line else line

-- CHARACTERS, in UTF-8

-- a byte that does not begin a character
abbrev pub is_further : ℕ → Bool
is_further b = nat_le 128 b && nat_lt b 192

abbrev pub is_lead : ℕ → Bool
is_lead b = not (is_further b)

-- how many characters a text has
abbrev pub char_count : List ℕ → ℕ
char_count text = count_by is_lead text

-- at most n characters at the front
unfoldable pub first_chars : (n : ℕ) → List ℕ → List ℕ
first_chars n [] = []
first_chars zero (b ∷ bs) = if is_further b then b ∷ first_chars zero bs else []
first_chars (suc n) (b ∷ bs) = b ∷ first_chars (if is_further b then suc n else n) bs

-- what follows them
abbrev pub behind_chars : (n : ℕ) → List ℕ → List ℕ
behind_chars n text = drop (length (first_chars n text)) text

-- WHAT IS SHOWN

-- so many characters stand before a place, and so many from it on
abbrev pub side : ℕ
side = 60

-- a control character other than a tab
abbrev pub is_control : ℕ → Bool
is_control b = (nat_lt b 32 && not (b == 9)) || (b == 127)

-- a character of the second set of control characters, U+0080 to U+009F, by its two bytes
abbrev pub is_second_control : (before b : ℕ) → Bool
is_second_control before b = (before == 194) && nat_lt b 160

-- a character that changes the direction of a text, or separates lines, by its last two bytes: U+200E, U+200F, U+2028 to
-- U+202E
abbrev pub is_direction : (before b : ℕ) → Bool
is_direction before b = (before == 128) && ((nat_le 142 b && nat_lt b 144) || (nat_le 168 b && nat_lt b 175))

-- the same of U+2066 to U+2069
abbrev pub is_isolate : (before b : ℕ) → Bool
is_isolate before b = (before == 129) && (nat_le 166 b && nat_lt b 170)

-- a byte as it is shown behind two others: a control character as a question mark, one of the second set as a turned
-- question mark, one of direction as three dots, an isolate as two question marks
abbrev pub safe_byte : (second before b : ℕ) → ℕ
safe_byte second before b =
    if is_control b then 63
    else (if is_second_control before b then 191
    else (if (second == 226) && is_direction before b then 166
    else (if (second == 226) && is_isolate before b then 135 else b)))

-- a text as it is shown behind two bytes
unfoldable pub safe_behind : (second before : ℕ) → List ℕ → List ℕ
safe_behind second before [] = []
safe_behind second before (b ∷ bs) = safe_byte second before b ∷ safe_behind before b bs

abbrev pub safe : List ℕ → List ℕ
safe text = safe_behind 0 0 text

-- what stands before a place: its last characters, if it has many
abbrev pub shown_front : List ℕ → List ℕ
shown_front front =
    if nat_lt side (char_count front) then codes "..." ++ safe (behind_chars (char_count front - side) front) else safe front

-- what stands from a place on: its first characters, if it has many
abbrev pub shown_back : List ℕ → List ℕ
shown_back back =
    if nat_lt side (char_count back) then safe (first_chars side back) ++ codes "..." else safe back

-- under the first byte of a character: a tab under a tab, and otherwise a space
abbrev pub blank : ℕ → List ℕ
blank b = if is_further b then [] else (if b == 9 then 9 else 32) ∷ []

-- one for each character
abbrev pub blanks : List ℕ → List ℕ
blanks text = flat_map blank text
