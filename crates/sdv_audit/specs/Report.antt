-- The REPORT of an audit: the notes on each line of a trace, and the summary.
use Rattle.std.specs.Prelude.{◌≡◌, ℕ, List, [], ◌∷◌, ◌++◌, Option, Some, None}
use Rattle.std.specs.Io.KnownBytes.{Appends}
use Rattle.sdv_registers.specs.declared.kind.Kind.{Kind}
use Rattle.sdv_telling.specs.Statements.{Text}
use Rattle.sdv_audit.specs.declared.line.TraceLine.{TraceLine}
use Rattle.sdv_audit.specs.declared.notes.TheConstants.{TOPICS}
use Rattle.sdv_audit.specs.declared.texts.Count.{Count}
use Rattle.sdv_audit.specs.declared.texts.Numbered.{Numbered}
use Rattle.sdv_audit.specs.declared.turn.Told.{Told}
use Rattle.sdv_audit.specs.Audited.{is_empty}
use Rattle.sdv_audit.specs.Course.{Course, IsAt, begun_at, course_after, found_at}
use Rattle.sdv_audit.specs.declared.style.Style.{Style}
use Rattle.sdv_audit.specs.declared.style.Tally.{Tally}
use Rattle.sdv_audit.specs.declared.report.Report.{Report}
use Rattle.sdv_audit.specs.Notes.{HasNotes, Note, ending, has_number, no_tally, notes_at, premises_of, tally_after}
use Rattle.sdv_audit.specs.declared.audit.Findings.{Findings}
use Rattle.sdv_audit.specs.declared.style.Premises.{Premises}
use Rattle.sdv_audit.specs.Texts.{Trace}

-- how far a report is
pub record Progress : Type 0 where
  pub course : Course
  pub tally : Tally

abbrev pub at_start : Style → Progress
at_start style = record { course = begun_at style.running; tally = no_tally }

-- what is said of the next line rests on these
abbrev pub premises_at : Progress → Findings → Premises
premises_at p found = premises_of p.course.running p.course.bounded p.tally.outside found

-- the notes on the next line, which has this number
abbrev pub line_notes : Kind → Style → Progress → (number : ℕ) → Told → List Note
line_notes k style p number told =
    notes_at style number told.line (premises_at p (found_at k told p.course)) (found_at k told p.course) TOPICS

abbrev pub progress_after : Kind → Style → Progress → Told → Progress
progress_after k style p told = record {
  course = course_after k told p.course;
  tally = tally_after (has_number style told.line) (is_empty p.course.shapes) (found_at k told p.course) p.tally;
}

-- ALL LINES: each is judged with the one behind it

abbrev pub first_of : List Numbered → Option TraceLine
first_of [] = None
first_of (n ∷ rest) = Some n.line

abbrev pub told_of : Numbered → List Numbered → Told
told_of n rest = record { line = n.line; next = first_of rest }

abbrev pub notes : Kind → Style → Progress → List Numbered → List Note
notes k style p [] = []
notes k style p (n ∷ rest) =
    line_notes k style p n.number (told_of n rest) ++ notes k style (progress_after k style p (told_of n rest)) rest

abbrev pub progress_from : Kind → Style → Progress → List Numbered → Progress
progress_from k style p [] = p
progress_from k style p (n ∷ rest) = progress_from k style (progress_after k style p (told_of n rest)) rest

abbrev pub tally_of : Kind → Style → List Numbered → Tally
tally_of k style lines = (progress_from k style (at_start style) lines).tally

-- WHAT IS WRITTEN

-- notes were
abbrev pub AddsNotes : Style → List Note → (old now : Option (List ℕ)) → Type 0
AddsNotes style notes old now = (text : Text) × HasNotes style notes text × Appends old now text

-- what stands behind them was, with some words
abbrev pub AddsEnding : Style → Count → Tally → (old now : Option (List ℕ)) → Type 0
AddsEnding style c t old now = (words : Text) × Appends old now (ending style c t words)

-- the whole report was
abbrev pub AddsReport : Kind → Style → Trace → (old now : Option (List ℕ)) → Type 0
AddsReport k style trace old now =
    (text words : Text) × HasNotes style (notes k style (at_start style) trace.lines) text
    × Appends old now (text ++ ending style trace.count (tally_of k style trace.lines) words)

-- A REPORT is so far
pub record ReportAt (report : Report) (p : Progress) : Type 0 where
  pub kind : report.audit.kind ≡ report.kind
  pub course : IsAt report.audit p.course
  pub tally : report.tally ≡ p.tally

-- lines were read, and their notes written but for the last one's, which waits for the line behind it
abbrev pub behind : Option Numbered → List Numbered → List Numbered
behind None rest = rest
behind (Some n) rest = n ∷ rest

pub record PendingAt (k : Kind) (style : Style) (p : Progress) (held : Option Numbered) (read : List Numbered)
    (noted : List Note) : Type 0 where
  pub notes_are : (rest : List Numbered) →
      notes k style (at_start style) (read ++ rest) ≡ noted ++ notes k style p (behind held rest)
  pub leads : (rest : List Numbered) → progress_from k style (at_start style) (read ++ rest) ≡ progress_from k style p (behind held rest)
