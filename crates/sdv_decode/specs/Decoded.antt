-- A TRACE READ BESIDE A SCRIPT: which point of the script each of its lines is of, and what is printed of it.
use Rattle.std.specs.Prelude.{◌≡◌, ◌⊎◌, ℕ, List, [], ◌∷◌, ◌++◌, Bool, true, false, Option, Some, None, Result, Ok, Err, codes}
use Rattle.sdv_card.specs.declared.state.Width.{Width}
use Rattle.sdv_graph.specs.Graph.{Graph}
use Rattle.sdv_registers.specs.declared.kind.Kind.{Kind}
use Rattle.sdv_telling.specs.Statements.{Text}
use Rattle.sdv_audit.specs.declared.fault.TraceLineFault.{TraceLineFault}
use Rattle.sdv_audit.specs.declared.line.TraceLine.{TraceLine}
use Rattle.sdv_audit.specs.declared.turn.Told.{Told}
use Rattle.sdv_audit.specs.Audited.{lines_told}
use Rattle.sdv_audit.specs.Course.{Course, begun, course_after}
use Rattle.sdv_audit.specs.Reading.{read_line}
use Rattle.sdv_audit.specs.Notes.{counted}
use Rattle.sdv_trace.specs.declared.end.End.{End}
use Rattle.sdv_run.specs.declared.fault.RunFault.{RunFault}
use Rattle.sdv_run.specs.declared.next_event.Next.{Next}
use Rattle.sdv_run.specs.declared.next_event.Next.TheVariants as nexts
use Rattle.sdv_run.specs.declared.next_event.NextEvent.{NextEvent}
use Rattle.sdv_run.specs.declared.next_event.NextEvent.TheVariants as events
use Rattle.sdv_run.specs.Machine.{Machine, Asked, Came, TookOn, Went, at_start}
use Rattle.sdv_decode.specs.LineWords.{IsLine, Spot, announces, end_told, told}
use Rattle.sdv_decode.specs.Lines.{lines_in}
use Rattle.sdv_decode.specs.Matches.{given_after, is_end, is_of, register_told, returned_of}
use Rattle.sdv_decode.specs.declared.fault.TraceOff.{TraceOff}
use Rattle.sdv_decode.specs.declared.fault.TraceOff.TheVariants.{Line, Script}
use Rattle.sdv_decode.specs.declared.form.Form.{Form}
use Rattle.sdv_decode.specs.declared.form.Form.TheVariants.{Picture}

-- WHERE A READING STANDS
pub record Place : Type 0 where
  -- the run of the script
  pub machine : Machine
  -- the next command is an application command
  pub app : Bool
  -- the shapes at which a card may stand that answered so
  pub course : Course
  -- the bytes of registers that are left, if they are given
  pub given : Option (List ℕ)
  -- the number of the next line, from 1
  pub number : ℕ

abbrev pub at_first : Graph → (given : Option (List ℕ)) → Place
at_first g given = record { machine = at_start g; app = false; course = begun; given = given; number = 1 }

-- the course behind a line
unfoldable pub course_behind : Kind → Told → Course → Course
course_behind k told c = course_after k told c

-- the host's data lines at a phase; a run prints no line where it changes them
abbrev pub uses : Kind → Width → Course → Course
uses k width c = course_behind k (lines_told width) c

abbrev pub course_before : Kind → NextEvent → Course → Course
course_before k (events.ReceiveBlocks lines count) c = uses k lines c
course_before k (events.ReceiveRegister lines count) c = uses k lines c
course_before k (events.GiveBlocks lines count) c = uses k lines c
course_before k event c = c

-- the line behind, where it is one
abbrev pub line_read : Result TraceLine TraceLineFault → Option TraceLine
line_read (Ok line) = Some line
line_read (Err fault) = None

abbrev pub line_behind : List Text → Option TraceLine
line_behind [] = None
line_behind (text ∷ texts) = line_read (read_line text)

abbrev pub told_with : TraceLine → Option TraceLine → Told
told_with line next = record { line = line; next = next }

abbrev pub course_by : Kind → NextEvent → TraceLine → Option TraceLine → Course → Course
course_by k event line next c = course_behind k (told_with line next) (course_before k event c)

abbrev pub place_after : Place → (after : Machine) → NextEvent → TraceLine → Option TraceLine → Place
place_after at after event line next = record {
  machine = after;
  app = announces line;
  course = course_by after.graph.kind event line next at.course;
  given = given_after at.given line;
  number = counted true at.number;
}

abbrev pub spot_of : (form : Form) → Place → Machine → Spot
spot_of form at here = record { graph = here.graph; form = form; number = at.number; point = here.stand.point }

-- A LINE

-- it is that of the next event of the run, which returned what it tells
pub record ComesNext (at : Place) (text : Text) : Type 0 where
  pub line : TraceLine
  pub read : read_line text ≡ Ok line
  pub here : Machine
  pub came : Came at.machine here
  pub event : NextEvent
  pub asked : Asked here (Ok (nexts.Event event))
  pub fits : is_of event line ≡ true
  pub after : Machine
  pub went : Went here (returned_of line (register_told at.given line)) after

-- it comes next, its line is printed of it, and the reading stands here behind it
pub record Passes (form : Form) (at : Place) (text : Text) (next : Option TraceLine) (words : Text) (at' : Place) : Type 0 where
  pub comes : ComesNext at text
  pub leads : at' ≡ place_after at comes.after comes.event comes.line next
  pub told_is : IsLine (spot_of form at comes.here) (told at.app comes.line) words

-- it is that of the end of the run
pub record IsLast (form : Form) (at : Place) (text words : Text) : Type 0 where
  pub here : Machine
  pub came : Came at.machine here
  pub end : End
  pub asked : Asked here (Ok (nexts.End end))
  pub fits : is_end text end ≡ true
  pub told_is : IsLine (spot_of form at here) (end_told end) words

-- it is of nothing that the run does next
abbrev pub Misfits : Machine → (text : Text) → TraceLine → (register : List ℕ) → Result Next RunFault → Type 0
Misfits here text line register (Ok (nexts.Event event)) =
    (is_of event line ≡ false)
    ⊎ ((fault : RunFault) × TookOn here (returned_of line register) here (Err fault))
Misfits here text line register (Ok (nexts.End end)) = is_end text end ≡ false
Misfits here text line register (Err fault) = Unit {0}

pub record Strays (form : Form) (at : Place) (text words : Text) : Type 0 where
  pub line : TraceLine
  pub read : read_line text ≡ Ok line
  pub here : Machine
  pub came : Came at.machine here
  pub asked : Result Next RunFault
  pub next : Asked here asked
  pub misfits : Misfits here text line (register_told at.given line) asked
  pub told_is : IsLine (spot_of form at here) (told false line) words

-- ALL LINES

-- the line behind the end of the run, if there is one, is of nothing
abbrev pub off_behind : (number : ℕ) → List Text → Option TraceOff
off_behind number [] = None
off_behind number (text ∷ texts) = Some (Script number)

-- The reading stops at a line: at the end of the run, at a text that is no line, or at a line that the run does not come to.
abbrev pub StopsAt : (form : Form) → Place → (text : Text) → (texts : List Text) → (words : Text) → Option TraceOff → Type 0
StopsAt form at text texts words off =
    (IsLast form at text words × (off ≡ off_behind (counted true at.number) texts))
    ⊎ (((fault : TraceLineFault) × (read_line text ≡ Err fault) × (words ≡ []) × (off ≡ Some (Line fault at.number)))
    ⊎ (Strays form at text words × (off ≡ Some (Script at.number))))

-- the texts of lines are read from a place on: this is printed of them, and the trace is off at a line, or at none
abbrev pub Reads : (form : Form) → Place → List Text → (words : Text) → Option TraceOff → Type 0
Reads form at [] words off = (words ≡ []) × (off ≡ None)
Reads form at (text ∷ texts) words off =
    ((at' : Place) × (first rest : Text) × Passes form at text (line_behind texts) first at' × (words ≡ first ++ rest)
    × Reads form at' texts rest off)
    ⊎ StopsAt form at text texts words off

-- IN THE WHOLE OF ITS FORM: the rows of a picture stand behind its head

abbrev pub IsFramed : Form → (body words : Text) → Type 0
IsFramed Picture body words = (head : Text) × (words ≡ head ++ (body ++ codes "</svg>\n"))
IsFramed form body words = words ≡ body

-- what is printed of a trace beside the graph of a script
pub record Decodes (g : Graph) (form : Form) (given : Option (List ℕ)) (trace words : Text) (off : Option TraceOff)
    : Type 0 where
  pub body : Text
  pub reads : Reads form (at_first g given) (lines_in trace) body off
  pub framed : IsFramed form body words
