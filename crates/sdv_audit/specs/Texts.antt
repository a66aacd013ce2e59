-- THE TEXTS of a trace, between line feeds: what each says, and the lines that they tell, with their numbers.
use Rattle.std.specs.Prelude.{ℕ, List, [], ◌∷◌, ◌++◌, ◌-◌, ◌||◌, Bool, true, length, take, codes, Result, Ok, Err, is_some, if◌then◌else◌}
use Rattle.std.specs.List.{suffix_len}
use Rattle.std.specs.Char.{is_ascii_whitespace}
use Rattle.sdv_text.specs.Fronts.{after, is_end}
use Rattle.sdv_audit.specs.declared.fault.TraceLineFault.{TraceLineFault}
use Rattle.sdv_audit.specs.declared.line.TraceLine.{TraceLine}
use Rattle.sdv_audit.specs.declared.style.Style.{Style}
use Rattle.sdv_audit.specs.declared.texts.Count.{Count}
use Rattle.sdv_audit.specs.declared.texts.Numbered.{Numbered}
use Rattle.sdv_audit.specs.declared.texts.Said.{Said}
use Rattle.sdv_audit.specs.declared.texts.Said.TheVariants.{Line, Comment}
use Rattle.sdv_audit.specs.Notes.{counted, has_number}
use Rattle.sdv_audit.specs.Reading.{read_line}

-- WHAT A TEXT SAYS

-- the text without the white space at its end
abbrev pub trimmed : List ℕ → List ℕ
trimmed text = take (length text - suffix_len is_ascii_whitespace text) text

-- it is blank, or begins as a comment
abbrev pub is_comment : List ℕ → Bool
is_comment text = is_end text || is_some (after (codes "#") text)

-- a comment that tells of a line which was left out or changed
abbrev pub is_about_line : List ℕ → Bool
is_about_line text = is_some (after (codes "# left out: ") text) || is_some (after (codes "# changed: ") text)

abbrev pub line_said : Result TraceLine TraceLineFault → Result Said TraceLineFault
line_said (Ok line) = Ok (Line line)
line_said (Err fault) = Err fault

abbrev pub said_of : List ℕ → Result Said TraceLineFault
said_of text = if is_comment text then Ok (Comment (is_about_line text)) else line_said (read_line text)

abbrev pub read_said : List ℕ → Result Said TraceLineFault
read_said text = said_of (trimmed text)

-- HOW MANY there are: a line `LINES n` that was put in has no number of its own

abbrev pub nothing_read : Count
nothing_read = record { last = 0; left_out = 0 }

abbrev pub count_after : Style → Said → Count → Count
count_after style (Line line) c = record { last = counted (has_number style line) c.last; left_out = c.left_out }
count_after style (Comment left_out) c = record { last = counted true c.last; left_out = counted left_out c.left_out }

-- A TRACE, as far as it was read

pub record Trace : Type 0 where
  pub lines : List Numbered
  pub count : Count

abbrev pub no_trace : Trace
no_trace = record { lines = []; count = nothing_read }

-- the number of the next text
abbrev pub next_number : Trace → ℕ
next_number trace = counted true trace.count.last

-- one text more
abbrev pub lines_with : (number : ℕ) → Said → List Numbered → List Numbered
lines_with number (Line line) lines = lines ++ record { number = number; line = line } ∷ []
lines_with number (Comment left_out) lines = lines

abbrev pub with_said : Style → Said → Trace → Trace
with_said style s trace =
    record { lines = lines_with (next_number trace) s trace.lines; count = count_after style s trace.count }
