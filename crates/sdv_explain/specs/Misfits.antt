-- THE LINE THAT IS WRONG in a text that is no description: the first one that does not say what it is to, or that has no
-- end of line (10).
use Rattle.std.specs.Prelude.{ℕ, zero, suc, ◌+◌, ◌-◌, ◌==◌, Bool, not, [], ◌∷◌, length, take, drop, take_while, Option, Some, None}
use Rattle.std.specs.Str.{bytes_eq}
use Rattle.sdv_text.specs.Fronts.{◌>>=◌}
use Rattle.sdv_explain.specs.declared.describing.field.Field.{Field}
use Rattle.sdv_explain.specs.declared.describing.field.Field.TheVariants as field
use Rattle.sdv_explain.specs.declared.describing.misfit.Misfit.{Misfit}
use Rattle.sdv_explain.specs.Fields.{next_field}
use Rattle.sdv_telling.specs.Statements.{Text}

-- how many bytes the first line has
abbrev pub line_len : Text → ℕ
line_len text = length (take_while (λ b. not (b == 10)) text)

abbrev pub front_line : Text → Text
front_line text = take (line_len text) text

abbrev pub behind_first : Text → Option Text
behind_first [] = None
behind_first (b ∷ bs) = Some bs

-- what follows the first line and its end, if it has one
abbrev pub behind_line : Text → Option Text
behind_line text = behind_first (drop (line_len text) text)

-- the first line says what it is to: what the next one is to say, and the text from there on
abbrev pub step : Field → Text → Option (Field × Text)
step f text = behind_line text >>= λ rest. next_field f (front_line text) >>= λ next. Some (next, rest)

-- the line ends in a carriage return, which stands before its line feed
abbrev pub ends_in_return : Text → Bool
ends_in_return line = bytes_eq (drop (length line - 1) line) (13 ∷ [])

-- the line with this number, at the front of a text, does not say this
abbrev pub misfit_at : (number : ℕ) → Field → Text → Misfit
misfit_at number f text = record { line = number; field = f; returns = ends_in_return (front_line text) }

-- the line with this number is wrong, unless it says what it is to; then the next one is, for so many lines
abbrev pub misfit_from : (lines number : ℕ) → Field → Text → Misfit
misfit_from zero number f text = misfit_at number f text
misfit_from (suc lines) number f text = elim (step f text) [
  | None ↦ misfit_at number f text
  | (Some next) ↦ misfit_from lines (number + 1) next.0 next.1
]

-- a description has seven lines at most, so the first one that is wrong is among nine
abbrev pub misfit_of : Text → Misfit
misfit_of text = misfit_from 9 1 field.Card text
