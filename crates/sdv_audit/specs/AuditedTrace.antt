-- WHAT THE AUDIT OF A TRACE does: which lines are read, and what is written.
use Rattle.std.specs.Prelude.{◌≡◌, ℕ, List, ◌++◌, ◌⊎◌, Option, Some, None, Result, Ok, Err, IfSome}
use Rattle.sdv_registers.specs.declared.kind.Kind.{Kind}
use Rattle.sdv_card.specs.Lists.{May}
use Rattle.sdv_audit.specs.Room.{AreMany}
use Rattle.sdv_audit.specs.declared.line.TraceLine.{TraceLine}
use Rattle.sdv_audit.specs.declared.fault.TraceLineFault.{TraceLineFault}
use Rattle.sdv_audit.specs.Texts.{Trace, next_number, read_said}
use Rattle.sdv_audit.specs.declared.texts.Numbered.{Numbered}
use Rattle.sdv_audit.specs.declared.fault.TraceFault.{TraceFault}
use Rattle.sdv_audit.specs.declared.fault.TraceFault.TheVariants as faults
use Rattle.sdv_audit.specs.declared.style.Style.{Style}
use Rattle.sdv_audit.specs.declared.style.Tally.{Tally}
use Rattle.sdv_audit.specs.declared.input.TextFault.{TextFault}
use Rattle.sdv_audit.specs.declared.input.TextFault.TheVariants as text_faults
use Rattle.sdv_audit.specs.declared.report.Report.{Report}
use Rattle.sdv_audit.specs.declared.trace.Pending.{Pending}
use Rattle.sdv_audit.specs.Notes.{Note}
use Rattle.sdv_audit.specs.Report.{AddsNotes, AddsReport, Progress, ReportAt, PendingAt, at_start, notes, progress_after, progress_from, tally_of}
use Rattle.sdv_audit.specs.Input.{IsText, BeginsLong, LinesRead, TraceRead}

-- all lines were read, and all is written
pub record Reported (k : Kind) (style : Style) (old new written after : Option (List ℕ)) (tally : Tally) : Type 0 where
  pub trace : Trace
  pub read : TraceRead style old new trace
  pub written_is : AddsReport k style trace written after
  pub tally_is : tally ≡ tally_of k style trace.lines

-- texts were read up to one with this number, and the notes on their lines are written
pub record StoppedAt (k : Kind) (style : Style) (old left written after : Option (List ℕ)) (number : ℕ) : Type 0 where
  pub trace : Trace
  pub read : LinesRead style old left trace
  pub number_is : number ≡ next_number trace
  pub written_is : AddsNotes style (notes k style (at_start style) trace.lines) written after

-- the text behind them is no line and no comment, for this reason
pub record StoppedByLine (k : Kind) (style : Style) (old written after : Option (List ℕ))
    (fault : TraceLineFault) (number : ℕ) : Type 0 where
  pub left : Option (List ℕ)
  pub stopped : StoppedAt k style old left written after number
  pub text : List ℕ
  pub is_text : IsText text
  pub is_none : read_said text ≡ Err fault
  pub front : IfSome left (λ bytes. (rest : List ℕ) × (bytes ≡ text ++ rest))

-- the text behind them is too long
pub record StoppedByLength (k : Kind) (style : Style) (old written after : Option (List ℕ)) (number : ℕ) : Type 0 where
  pub left : Option (List ℕ)
  pub stopped : StoppedAt k style old left written after number
  pub long : IfSome left BeginsLong

-- the reader failed behind them
pub record StoppedByReader (k : Kind) (style : Style) (old written after : Option (List ℕ)) : Type 0 where
  pub left : Option (List ℕ)
  pub number : ℕ
  pub stopped : StoppedAt k style old left written after number

-- the last of these lines is judged with the next one, if there is one: more shapes follow it than an audit keeps
pub record NoRoom (k : Kind) (style : Style) (read : List Numbered) (next : Option TraceLine) : Type 0 where
  pub progress : Progress
  pub last : Numbered
  pub noted : List Note
  pub waits : PendingAt k style progress (Some last) read noted
  pub many : AreMany (May (progress_after k style progress (record { line = last.line; next = next })).course.shapes)

-- so it is with some line behind them, or with none
abbrev pub LacksRoom : Kind → Style → (read : List Numbered) → Type 0
LacksRoom k style read = (next : Option TraceLine) × NoRoom k style read next

-- so it is at the last of the lines that were read
pub record StoppedByRoom (k : Kind) (style : Style) (old : Option (List ℕ)) : Type 0 where
  pub left : Option (List ℕ)
  pub trace : Trace
  pub read : LinesRead style old left trace ⊎ TraceRead style old left trace
  pub next : Option TraceLine
  pub no_room : NoRoom k style trace.lines next

abbrev pub Audits : Kind → Style → (old new written after : Option (List ℕ)) → Result Tally TraceFault → Type 0
Audits k style old new written after (Ok tally) = Reported k style old new written after tally
Audits k style old new written after (Err (faults.Line fault number)) =
    StoppedByLine k style old written after fault number
Audits k style old new written after (Err (faults.Length number)) = StoppedByLength k style old written after number
Audits k style old new written after (Err faults.Read) = StoppedByReader k style old written after
Audits k style old new written after (Err faults.Room) = StoppedByRoom k style old
Audits k style old new written after (Err fault) = Unit {0}

-- A REPORT whose last line waits for the line behind it: these lines were read, and what is known of what is written
pub record Written (report : Report) (held : Option Numbered) (k : Kind) (style : Style) (read : List Numbered)
    (old now : Option (List ℕ)) : Type 0 where
  pub kind : report.kind ≡ k
  pub style_is : report.style ≡ style
  pub progress : Progress
  pub at : ReportAt report progress
  pub noted : List Note
  pub pending : PendingAt k style progress held read noted
  pub written_is : AddsNotes style noted old now

-- the same of a trace, whose texts are counted
pub record Waits (pending : Pending) (k : Kind) (style : Style) (trace : Trace) (old now : Option (List ℕ)) : Type 0 where
  pub written : Written pending.report pending.held k style trace.lines old now
  pub count : pending.count ≡ trace.count

-- no line waits
pub record Finished (report : Report) (k : Kind) (style : Style) (read : List Numbered) (old now : Option (List ℕ))
    : Type 0 where
  pub style_is : report.style ≡ style
  pub at : ReportAt report (progress_from k style (at_start style) read)
  pub written_is : AddsNotes style (notes k style (at_start style) read) old now

-- the notes on the lines that were read are written, and the fault tells the number of the next text
abbrev pub StopsAt : Kind → Style → Trace → (old now : Option (List ℕ)) → TraceLineFault → Result Tally TraceFault → Type 0
StopsAt k style trace old now fault (Ok tally) = ⊥
StopsAt k style trace old now fault (Err (faults.Line why number)) =
    (why ≡ fault) × (number ≡ next_number trace) × AddsNotes style (notes k style (at_start style) trace.lines) old now
StopsAt k style trace old now fault (Err (faults.Length number)) = ⊥
StopsAt k style trace old now fault (Err faults.Read) = ⊥
StopsAt k style trace old now fault (Err faults.Room) = NoRoom k style trace.lines None
StopsAt k style trace old now fault (Err why) = Unit {0}

abbrev pub StopsReading : Kind → Style → Trace → (old now : Option (List ℕ)) → TextFault → Result Tally TraceFault → Type 0
StopsReading k style trace old now fault (Ok tally) = ⊥
StopsReading k style trace old now fault (Err (faults.Line why number)) = ⊥
StopsReading k style trace old now fault (Err (faults.Length number)) =
    (fault ≡ text_faults.Long) × (number ≡ next_number trace) × AddsNotes style (notes k style (at_start style) trace.lines) old now
StopsReading k style trace old now fault (Err faults.Read) = AddsNotes style (notes k style (at_start style) trace.lines) old now
StopsReading k style trace old now fault (Err faults.Room) = NoRoom k style trace.lines None
StopsReading k style trace old now fault (Err why) = Unit {0}

-- all is written, with the summary
abbrev pub EndsReport : Kind → Style → Trace → (old now : Option (List ℕ)) → Result Tally TraceFault → Type 0
EndsReport k style trace old now (Ok tally) = AddsReport k style trace old now × (tally ≡ tally_of k style trace.lines)
EndsReport k style trace old now (Err (faults.Line why number)) = ⊥
EndsReport k style trace old now (Err (faults.Length number)) = ⊥
EndsReport k style trace old now (Err faults.Read) = ⊥
EndsReport k style trace old now (Err faults.Room) = NoRoom k style trace.lines None
EndsReport k style trace old now (Err why) = Unit {0}

-- so it is while texts are read
pub record Goes (k : Kind) (style : Style) (pending : Pending) (read left old now : Option (List ℕ)) : Type 0 where
  pub trace : Trace
  pub lines_read : LinesRead style read left trace
  pub waits : Waits pending k style trace old now
