-- One line more of a trace that is read beside a script.
use Rattle.std.specs.Prelude.{◌≡◌, ℕ, List, ◌++◌, Bool, true, false, Err, Option, option_map}
use Rattle.sdv_telling.specs.Statements.{Text}
use Rattle.sdv_audit.specs.Course.{IsAt}
use Rattle.sdv_audit.specs.declared.line.TraceLine.{TraceLine}
use Rattle.sdv_run.specs.Machine.{Came, Machine, TookOn, Went}
use Rattle.sdv_run.specs.declared.fault.RunFault.{RunFault}
use Rattle.sdv_run.specs.declared.next_event.NextEvent.{NextEvent}
use Rattle.sdv_decode.specs.Decoded.{Passes, Place, StopsAt, line_behind, place_after, told_with}
use Rattle.sdv_decode.specs.Matches.{register_told, returned_of}
use Rattle.sdv_decode.specs.Room.{AreTooMany}
use Rattle.sdv_decode.specs.declared.form.Form.{Form}
use Rattle.sdv_decode.specs.declared.reading.Reading.{Reading}
use Rattle.sdv_decode.specs.declared.reading.Step.{Step}
use Rattle.sdv_decode.specs.declared.reading.Step.TheVariants.{Passed, Stopped}

-- what a reading knows but for the run of the script
pub record IsBeside (r : Reading) (at : Place) : Type 0 where
  pub kind : r.audit.kind ≡ r.runner.graph.kind
  pub course : IsAt r.audit at.course
  pub app : r.app ≡ at.app
  pub given : option_map (λ bytes. bytes.now) r.given ≡ at.given
  pub number : r.number ≡ at.number

-- a reading stands at a place
pub record IsPlace (r : Reading) (at : Place) : Type 0 where
  pub machine : r.runner ≡ at.machine
  pub beside : IsBeside r at

-- the run was asked for its next event there
pub record IsAsked (r : Reading) (at : Place) : Type 0 where
  pub came : Came at.machine r.runner
  pub beside : IsBeside r at

-- the bytes of registers that are left
abbrev pub given_of : Reading → Option (List ℕ)
given_of r = option_map (λ bytes. bytes.now) r.given

-- the run goes on by what the line tells; or it refuses that, and nothing changes
abbrev pub GoesOn : Reading → NextEvent → TraceLine → (next : Option TraceLine) → Reading → Bool → Type 0
GoesOn r event line next r' true =
    (at : Place) → IsAsked r at → (after : Machine) × Went r.runner (returned_of line (register_told (given_of r) line)) after
    × IsPlace r' (place_after at after event line next)
GoesOn r event line next r' false =
    (r' ≡ r)
    × ((fault : RunFault) × TookOn r.runner (returned_of line (register_told (given_of r) line)) r.runner (Err fault))

-- the run goes on by what the line tells, and there are too many shapes
abbrev pub IsCrowded : Reading → NextEvent → TraceLine → (next : Option TraceLine) → Type 0
IsCrowded r event line next =
    (at : Place) → IsAsked r at
    → (after : Machine) × Went r.runner (returned_of line (register_told (given_of r) line)) after
    × AreTooMany after.graph.kind event (told_with line next) at.course

-- the line is that of the next event, or the reading stops there
abbrev pub StepsTo : (form : Form) → Place → (text : Text) → (behind : List Text) → (words : Text) → Reading → Step → Type 0
StepsTo form at text behind words r Passed =
    (at' : Place) × Passes form at text (line_behind behind) words at' × IsPlace r at'
StepsTo form at text behind words r (Stopped off) = StopsAt form at text behind words off

-- and its words were added
abbrev pub Steps : (form : Form) → Place → (text : Text) → (behind : List Text) → (old new : Text) → Reading → Step → Type 0
Steps form at text behind old new r step =
    (words : Text) × (new ≡ old ++ words) × StepsTo form at text behind words r step
