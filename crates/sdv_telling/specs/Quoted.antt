-- QUOTED WORDS: as a string of JSON has them. All of them is printable ASCII, whatever the words are.
use Rattle.std.specs.Prelude.{ℕ, [], ◌∷◌, ◌++◌, ◌==◌, ◌||◌, codes, flat_map, nat_lt, if◌then◌else◌}
use Rattle.hex.specs.Hex.{encode_lower}
use Rattle.sdv_telling.specs.Statements.{Text}

-- a byte by its number
abbrev pub escaped : ℕ → Text
escaped byte = codes "\\u00" ++ encode_lower (byte ∷ [])

abbrev pub quoted_byte : ℕ → Text
quoted_byte byte =
    if byte == 34 then codes "\\\"" else (if byte == 92 then codes "\\\\"
    else (if nat_lt byte 32 || nat_lt 126 byte then escaped byte else byte ∷ []))

abbrev pub quoted : Text → Text
quoted words = flat_map quoted_byte words
