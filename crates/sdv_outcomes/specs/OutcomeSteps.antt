-- Each outcome is of a step: whatever may follow an event at a shape follows it in some step of a card of that shape.
-- This project's own.
use Rattle.std.specs.Prelude.{◌≡◌, ◌⊎◌, ◌<◌, true, ℕ, All, Some}
use Rattle.sdv_frames.specs.declared.reply.Reply.TheVariants.{R6}
use Rattle.sdv_registers.specs.Status.{rca}
use Rattle.sdv_registers.specs.declared.kind.Kind.{Kind}
use Rattle.sdv_card.specs.declared.state.State.TheVariants.{Stby}
use Rattle.sdv_card.specs.declared.fields.Fields.{Fields}
use Rattle.sdv_card.specs.declared.command.Order.TheVariants.{SendRelativeAddress}
use Rattle.sdv_card.specs.declared.answer.Answer.TheVariants.{Reply as Replied}
use Rattle.sdv_card.specs.declared.event.Outcome.{Outcome}
use Rattle.sdv_card.specs.declared.event.Seen.TheVariants.{TimeOut}
use Rattle.sdv_card.specs.Lists.{May}
use Rattle.sdv_card.specs.CommandTable.{order_of}
use Rattle.sdv_card.specs.ScriptEvent.{ScriptEvent, SendCommand, GiveBlocks, Return, Answered, event_of}
use Rattle.sdv_card.specs.Card.{Card, IsRegister}
use Rattle.sdv_card.specs.Host.{Host, host_after}
use Rattle.sdv_card.specs.HostEvents.{Makes}
use Rattle.sdv_card.specs.Legal.{EventLegal, InBounds, TransferOnCard}
use Rattle.sdv_card.specs.Step.{Step}
use Rattle.sdv_card.specs.Shapes.{view, pair_code, IsPair}
use Rattle.sdv_card.specs.Outcomes.{branch, outcome_of, outcomes_code}
use Rattle.sdv_card.specs.Code.{fields_of}
use Rattle.sdv_card.specs.Seen.{seen_of}
use Rattle.sdv_outcomes.specs.OpenGuards.{OpenGuards, OpenGuardsAre}
use Rattle.sdv_outcomes.specs.Representative.{IsRepresentative}

-- the outcome that a step from c to u shows: the code afterwards, and what is seen of what was returned
abbrev pub step_outcome : Kind → ScriptEvent → (c : Card) → Host → Return → (u : Card) → Outcome
step_outcome k event c h returned u =
    outcome_of (branch (view u (host_after k event returned h)) (seen_of k c.mode.error returned))

-- a step of the card with this outcome, at which the open guards have these values
pub record StepWithOutcome (k : Kind) (guards : OpenGuards) (event : ScriptEvent) (c : Card) (h : Host) (o : Outcome)
    : Type 0 where
  pub returned : Return
  pub after : Card
  pub step : Step event c returned after
  pub same : o ≡ step_outcome k event c h returned after
  pub guards_are : OpenGuardsAre k guards (seen_of k c.mode.error returned) returned
  pub representative : IsRepresentative after
  -- a relative address that the card shows is not 0
  pub published : (word : ℕ) → returned ≡ Answered (Replied (R6 word)) → 0 < rca word

-- the event is CMD3 of SD
abbrev pub AsksRelativeAddress : Kind → ScriptEvent → Type 0
AsksRelativeAddress k (SendCommand ask position argument) = order_of k ask ≡ Some SendRelativeAddress
AsksRelativeAddress k event = ⊥

-- The one exception. Where an SD card takes CMD3 and its host does not hear the answer, the card's new address may be
-- the host's by chance, so the outcomes have a match too. But no card has the address 0: a host that holds 0 has no
-- match.
pub record IsImpossibleMatch (k : Kind) (event : ScriptEvent) (h : Host) (o : Outcome) : Type 0 where
  pub asks : AsksRelativeAddress k event
  pub none : h.rca ≡ 0
  pub seen : o.seen ≡ TimeOut
  pub fields : Fields
  pub shown : fields_of o.shape.0 ≡ Some fields
  pub state : fields.state ≡ Stby
  pub matched : fields.matched ≡ true

-- what a host gives are blocks
abbrev pub GivesBlocks : ScriptEvent → Type 0
GivesBlocks (GiveBlocks lines blocks) = All (IsRegister 512) blocks
GivesBlocks event = Unit {0}

-- each outcome of a legal event in bounds is of a step of each representative card with that code, or the exception
abbrev pub OutcomesAreSteps : Kind → Type 0
OutcomesAreSteps k = (guards : OpenGuards) (event : ScriptEvent) (c : Card) (h : Host) (o : Outcome) →
    IsPair k c h → IsRepresentative c → TransferOnCard c →
    Makes k event h → GivesBlocks event → EventLegal event c → InBounds event c →
    May (outcomes_code k (pair_code c h) (event_of event)) o →
    StepWithOutcome k guards event c h o ⊎ IsImpossibleMatch k event h o

-- and the exception is of no step of any card with that code
abbrev pub ImpossibleMatchesAreNoSteps : Kind → Type 0
ImpossibleMatchesAreNoSteps k =
    (event : ScriptEvent) (c : Card) (h : Host) (o : Outcome) (returned : Return) (u : Card) →
    IsPair k c h → Makes k event h → IsImpossibleMatch k event h o → Step event c returned u →
    o ≡ step_outcome k event c h returned u → ⊥
