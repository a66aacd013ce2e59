-- Each outcome at each shape is of a step of some card of that shape, with no exception; and where an event is not legal
-- at a shape, it is not legal at some card of that shape.
-- This project's own.
use Rattle.std.specs.Prelude.{◌≡◌, IsTrue, false, ℕ, [], ◌∷◌, Some}
use Rattle.sdv_registers.specs.declared.kind.Kind.{Kind}
use Rattle.sdv_card.specs.declared.event.Event.{Event}
use Rattle.sdv_card.specs.declared.event.Outcome.{Outcome}
use Rattle.sdv_card.specs.Lists.{May}
use Rattle.sdv_card.specs.Card.{Card}
use Rattle.sdv_card.specs.Host.{Host}
use Rattle.sdv_card.specs.declared.fields.Fields.{Fields}
use Rattle.sdv_card.specs.ScriptEvent.{ScriptEvent, event_of}
use Rattle.sdv_card.specs.HostEvents.{Makes}
use Rattle.sdv_card.specs.Legal.{EventLegal}
use Rattle.sdv_card.specs.LegalShapes.{legal_code}
use Rattle.sdv_card.specs.Code.{fields_of}
use Rattle.sdv_card.specs.Shapes.{pair_code, is_shape}
use Rattle.sdv_card.specs.Outcomes.{outcomes_code}
use Rattle.sdv_outcomes.specs.OpenGuards.{OpenGuards}
use Rattle.sdv_outcomes.specs.Representative.{IsRepresentativePair}
use Rattle.sdv_outcomes.specs.Histories.{Happens}
use Rattle.sdv_outcomes.specs.Runs.{IsEvent, RunOf}

-- a card and a host of the code, and a step there with the outcome
pub record CardWithOutcome (k : Kind) (code : ℕ) (event : Event) (position : ℕ) (o : Outcome) (guards : OpenGuards)
    : Type 0 where
  pub card : Card
  pub host : Host
  pub pair : IsRepresentativePair k card host
  pub same : pair_code card host ≡ code
  pub run : RunOf k (Happens event position o guards ∷ []) card host

-- there is one for each outcome of a legal event, whatever the position that the event names
abbrev pub EachOutcomeHasCard : Kind → Type 0
EachOutcomeHasCard k = (code : ℕ) (event : Event) (position : ℕ) (o : Outcome) (guards : OpenGuards) →
    IsTrue (legal_code k code event) → May (outcomes_code k code event) o →
    CardWithOutcome k code event position o guards

-- a card and a host of the code, where the host can make the event, and it is not legal however it makes it
pub record CardWhereIllegal (k : Kind) (code : ℕ) (event : Event) (position : ℕ) : Type 0 where
  pub card : Card
  pub host : Host
  pub pair : IsRepresentativePair k card host
  pub same : pair_code card host ≡ code
  pub event_made : ScriptEvent
  pub is : IsEvent event position event_made
  pub made : Makes k event_made host
  pub illegal : (x : ScriptEvent) → event_of x ≡ event → Makes k x host → EventLegal x card → ⊥

-- there is one for each shape at which an event is not legal, whatever the position that the event names
abbrev pub EachIllegalShapeHasCard : Kind → Type 0
EachIllegalShapeHasCard k = (code : ℕ) (f : Fields) (event : Event) (position : ℕ) →
    fields_of code ≡ Some f → IsTrue (is_shape k f) → legal_code k code event ≡ false →
    CardWhereIllegal k code event position
