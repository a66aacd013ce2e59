-- Lines: texts, each with a line feed behind it.
use Rattle.std.specs.Prelude.{◌≡◌, ◌≤◌, ◌-◌, ℕ, List, [], ◌∷◌, ◌++◌, length, take, Ok}
use Rattle.std.specs.Char.{is_ascii_whitespace}
use Rattle.std.specs.List.{AllByRecursion, suffix_len}
use Rattle.hex.specs.Hex.{decode_of}
use Rattle.sdv_card.specs.Card.{Block}
use Rattle.sdv_trace.specs.Trace.{line_feed}
use Rattle.sdv_lines.specs.declared.line.TheConstants.{LONGEST}

-- a text has no line feed
abbrev pub IsText : List ℕ → Type 0
IsText text = AllByRecursion (λ byte. byte ≡ 10 → ⊥) text

-- a line has no line feed within it, and 1,025 bytes at most
abbrev pub IsLine : List ℕ → Type 0
IsLine text = IsText text × (length text ≤ LONGEST)

-- what a line says: its text before the blanks at its end
abbrev pub trimmed : List ℕ → List ℕ
trimmed text = take (length text - suffix_len is_ascii_whitespace text) text

abbrev pub trims : List (List ℕ) → List (List ℕ)
trims [] = []
trims (text ∷ texts) = trimmed text ∷ trims texts

-- the lines of texts, one after another
abbrev pub lines_of : List (List ℕ) → List ℕ
lines_of [] = []
lines_of (text ∷ texts) = text ++ (line_feed ++ lines_of texts)

-- a text is the hexadecimal digits of these bytes, in either case
abbrev pub AreDigits : List ℕ → List ℕ → Type 0
AreDigits text bytes = decode_of text ≡ Ok bytes

-- each text is the digits of a block, in order
abbrev pub AreBlocks : List (List ℕ) → List Block → Type 0
AreBlocks [] [] = Unit {0}
AreBlocks (text ∷ texts) (block ∷ blocks) = AreDigits text block × (length block ≡ 512) × AreBlocks texts blocks
AreBlocks texts blocks = ⊥
