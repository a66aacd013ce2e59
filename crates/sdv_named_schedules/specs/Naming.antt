-- WHAT A SCHEDULE BY NAME MEANS: the value of each event of a run is that of the first mishap that names it, or 0.
use Rattle.std.specs.Prelude.{◌≡◌, ◌+◌, ◌-◌, ◌==◌, ◌&&◌, nat_lt, ℕ, List, [], ◌∷◌, Bool, false, filter, is_none, map, Option, Some, None, if◌then◌else◌}
use Rattle.sdv_named_schedules.specs.declared.idle.Idle.{Idle}
use Rattle.sdv_named_schedules.specs.declared.naming.EventName.{EventName}
use Rattle.sdv_named_schedules.specs.declared.naming.EventName.TheVariants.{Line, Command, Application, Number}
use Rattle.sdv_named_schedules.specs.declared.naming.NamedMishap.{NamedMishap}
use Rattle.sdv_named_schedules.specs.declared.naming.SeenEvent.{SeenEvent}
use Rattle.sdv_named_schedules.specs.declared.naming.Placed.{Placed}

-- NAMES

abbrev pub has_index : (sent : Option ℕ) → (index : ℕ) → Bool
has_index None index = false
has_index (Some sent) index = sent == index

-- the event with the number, from 0, has the name; numbers in names begin with 1
abbrev pub is_of : EventName → (number : ℕ) → SeenEvent → Bool
is_of (Line line) number event = event.line == line
is_of (Command index) number event = has_index event.command index
is_of (Application index) number event = event.app && has_index event.command index
is_of (Number named) number event = nat_lt 0 named && (number == named - 1)

-- Of the events with the name, the number of the one that so many are left to; `number` is that of the first event.
abbrev pub named_place : (number left : ℕ) → EventName → List SeenEvent → Option ℕ
named_place number left name [] = None
named_place number left name (event ∷ events) =
    if is_of name number event
    then (if left == 1 then Some number else named_place (number + 1) (left - 1) name events)
    else named_place (number + 1) left name events

-- the number of the event that a mishap names, with the value
abbrev pub placed : (events : List SeenEvent) → NamedMishap → Placed
placed events m = record { place = named_place 0 m.ordinal m.event events; code = m.code }

-- VALUES

abbrev pub is_at : (place : Option ℕ) → (number : ℕ) → Bool
is_at None number = false
is_at (Some place) number = place == number

-- the value of the first mishap at the event
abbrev pub value_at : (number : ℕ) → List Placed → ℕ
value_at number [] = 0
value_at number (p ∷ ps) = if is_at p.place number then p.code else value_at number ps

-- of each event, from this number on
abbrev pub values_from : (number : ℕ) → List Placed → List SeenEvent → List ℕ
values_from number places [] = []
values_from number places (event ∷ events) = value_at number places ∷ values_from (number + 1) places events

abbrev pub named_codes : List NamedMishap → List SeenEvent → List ℕ
named_codes mishaps events = values_from 0 (map (placed events) mishaps) events

-- LINES WITHOUT EFFECT: the event of the mishap does not come
abbrev pub is_idle : (events : List SeenEvent) → NamedMishap → Bool
is_idle events m = is_none (named_place 0 m.ordinal m.event events)

abbrev pub mishap_of : Idle → NamedMishap
mishap_of idle = idle.mishap

-- The values are those that the mishaps give the events of a run, and the lines without effect are those of the mishaps
-- whose events do not come in it. Which run that is is not said.
pub record AreNamed (mishaps : List NamedMishap) (codes : List ℕ) (idle : List Idle) : Type 0 where
  pub events : List SeenEvent
  pub values : codes ≡ named_codes mishaps events
  pub lines : map mishap_of idle ≡ filter (is_idle events) mishaps
