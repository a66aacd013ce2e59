-- The LINES of a text: what stands before each line feed, and behind the last one if something does.
use Rattle.std.specs.Prelude.{ℕ, List, [], ◌∷◌, ◌==◌, if◌then◌else◌}

-- a byte more at the front of the first line
abbrev pub before_first : ℕ → List (List ℕ) → List (List ℕ)
before_first byte [] = (byte ∷ []) ∷ []
before_first byte (line ∷ lines) = (byte ∷ line) ∷ lines

abbrev pub lines_in : List ℕ → List (List ℕ)
lines_in [] = []
lines_in (byte ∷ bytes) = if byte == 10 then [] ∷ lines_in bytes else before_first byte (lines_in bytes)
