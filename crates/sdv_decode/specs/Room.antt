-- NO ROOM: a trace read beside a script comes to a line at which a card could be in more shapes than an audit keeps.
use Rattle.std.specs.Prelude.{◌⊎◌, List, [], ◌∷◌, Option}
use Rattle.sdv_card.specs.Lists.{May}
use Rattle.sdv_registers.specs.declared.kind.Kind.{Kind}
use Rattle.sdv_telling.specs.Statements.{Text}
use Rattle.sdv_audit.specs.declared.line.TraceLine.{TraceLine}
use Rattle.sdv_audit.specs.declared.turn.Told.{Told}
use Rattle.sdv_audit.specs.Course.{Course}
use Rattle.sdv_audit.specs.Room.{AreMany}
use Rattle.sdv_run.specs.declared.next_event.NextEvent.{NextEvent}
use Rattle.sdv_decode.specs.Decoded.{ComesNext, Passes, Place, course_before, course_behind, line_behind, told_with}
use Rattle.sdv_decode.specs.declared.form.Form.{Form}

-- where the host uses the data lines of the event, or behind the line
abbrev pub AreTooMany : Kind → NextEvent → Told → Course → Type 0
AreTooMany k event told c =
    AreMany (May (course_before k event c).shapes)
    ⊎ AreMany (May (course_behind k told (course_before k event c)).shapes)

-- the line comes next, and there are too many shapes at it
pub record LacksRoom (at : Place) (text : Text) (next : Option TraceLine) : Type 0 where
  pub comes : ComesNext at text
  pub many : AreTooMany comes.after.graph.kind comes.event (told_with comes.line next) at.course

-- so it is at one of the lines from a place on, and those before it pass
abbrev pub StopsByRoom : (form : Form) → Place → List Text → Type 0
StopsByRoom form at [] = ⊥
StopsByRoom form at (text ∷ texts) =
    ((at' : Place) × (words : Text) × Passes form at text (line_behind texts) words at' × StopsByRoom form at' texts)
    ⊎ LacksRoom at text (line_behind texts)
