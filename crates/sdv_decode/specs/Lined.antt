-- A TRACE WITH THE DATA LINES OF ITS HOST. No run prints where the host changes them, and an audit has to read it.
use Rattle.std.specs.Prelude.{◌≡◌, ◌⊎◌, ℕ, List, [], ◌∷◌, ◌++◌, Option, None, if◌then◌else◌}
use Rattle.sdv_card.specs.declared.state.Width.{Width}
use Rattle.sdv_card.specs.Modes.{same_width}
use Rattle.sdv_telling.specs.Statements.{Text}
use Rattle.sdv_audit.specs.Spelling.{line_text}
use Rattle.sdv_audit.specs.declared.line.TraceLine.TheVariants.{Lines}
use Rattle.sdv_decode.specs.Decoded.{Passes, Place, StopsAt, line_behind}
use Rattle.sdv_decode.specs.declared.fault.TraceOff.{TraceOff}
use Rattle.sdv_decode.specs.declared.form.Form.TheVariants.{Words}

-- the data lines of the host at a place
abbrev pub lines_at : Place → Width
lines_at at = at.machine.stand.host.lines

-- a line with its line feed
abbrev pub fed : Text → Text
fed line = line ++ 10 ∷ []

-- the line that tells a change, where there is one
abbrev pub change : (before now : Width) → Text
change before now = if same_width before now then [] else fed (line_text (Lines now))

-- The texts of lines are read from a place on, as they are decoded. Each that comes along stands behind the change of the
-- data lines before it. The reading stops behind the last one, or at one that stands as it is.
abbrev pub Put : Place → List Text → (words : Text) → Option TraceOff → Type 0
Put at [] words off = (words ≡ []) × (off ≡ None)
Put at (text ∷ texts) words off =
    ((at' : Place) × (told rest : Text) × Passes Words at text (line_behind texts) told at'
    × (words ≡ (change (lines_at at) (lines_at at') ++ fed text) ++ rest) × Put at' texts rest off)
    ⊎ ((told : Text) × StopsAt Words at text texts told off × (words ≡ fed text))
