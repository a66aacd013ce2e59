-- What a board says before its first answer: lines that have not the form of an answer. A reader may leave them out.
use Rattle.std.specs.Prelude.{◌≡◌, ◌||◌, ◌-◌, ◌++◌, ◌==◌, nat_lt, is_ok, ℕ, List, [], ◌∷◌, length, Bool, false, Option, Some, None, option_map, if◌then◌else◌}
use Rattle.hex.specs.Hex.{decode_sized}
use Rattle.sdv_text.specs.Fronts.{after, is_word}
use Rattle.sdv_lines.specs.declared.words.TheConstants as words
use Rattle.sdv_lines.specs.declared.line.TheConstants.{LONGEST}
use Rattle.sdv_lines.specs.Texts.{IsLine, trimmed}

-- what follows the name of a response is the digits of so many bytes
abbrev pub are_digits : (count : ℕ) → Option (List ℕ) → Bool
are_digits count None = false
are_digits count (Some digits) = is_ok (decode_sized digits count)

abbrev pub is_response : (format : List ℕ) → (count : ℕ) → List ℕ → Bool
is_response format count text = are_digits count (after format text)

-- a text has the form of an answer's first line
unfoldable pub is_answer : List ℕ → Bool
is_answer text =
    is_word words.NOTHING.now text || is_word words.TIMEOUT.now text || is_word words.DAMAGED.now text
    || is_word words.OK.now text || is_word words.CUT.now text || is_word words.LATE.now text
    || is_response words.R1_CAME.now 4 text || is_response words.R2_CAME.now 15 text
    || is_response words.R3_CAME.now 4 text || is_response words.R6_CAME.now 4 text
    || is_response words.R7_CAME.now 4 text

-- a line that a board says before its first answer
abbrev pub IsNoise : List ℕ → Type 0
IsNoise text = IsLine text × (is_answer (trimmed text) ≡ false)

-- The bytes behind a front of a line, which is held, without the lines before the first answer, so many of them at most. What
-- follows is left as it is: also behind so many lines, and where a line is longer than any of the protocol.
unfoldable pub quieted : (most : ℕ) → (held : List ℕ) → List ℕ → List ℕ
quieted most held [] = held
quieted most held (byte ∷ bytes) =
    if (most == 0) || nat_lt LONGEST (length held) then held ++ byte ∷ bytes
    else if byte == 10 then
    (if is_answer (trimmed held) then held ++ byte ∷ bytes else quieted (most - 1) [] bytes)
    else quieted most (held ++ byte ∷ []) bytes

-- of bytes that are known
abbrev pub quiets : (most : ℕ) → (held : List ℕ) → Option (List ℕ) → Option (List ℕ)
quiets most held known = option_map (quieted most held) known
