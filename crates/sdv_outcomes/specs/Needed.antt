-- Why the law has its premises and its exception: cards with an outcome of their shape that is of no step of theirs.
-- This project's own.
use Rattle.std.specs.Prelude.{◌≡◌, true, false, ℕ, List}
use Rattle.sdv_registers.specs.declared.kind.Kind.{Kind}
use Rattle.sdv_registers.specs.declared.kind.Kind.TheVariants.{Sd, Emmc}
use Rattle.sdv_card.specs.declared.state.State.TheVariants.{Ident}
use Rattle.sdv_card.specs.declared.event.Outcome.{Outcome}
use Rattle.sdv_card.specs.Lists.{May}
use Rattle.sdv_card.specs.ScriptEvent.{ScriptEvent, Return, event_of}
use Rattle.sdv_card.specs.Card.{Card, Block, AreBlocks}
use Rattle.sdv_card.specs.Host.{Host}
use Rattle.sdv_card.specs.HostEvents.{Makes}
use Rattle.sdv_card.specs.Legal.{EventLegal, InBounds, TransferOnCard}
use Rattle.sdv_card.specs.Step.{Step}
use Rattle.sdv_card.specs.Shapes.{pair_code, IsPair}
use Rattle.sdv_card.specs.Outcomes.{outcomes_code}
use Rattle.sdv_card.specs.Profile.{host_at_start}
use Rattle.sdv_card.specs.BringUp.{example_card, selected_card}
use Rattle.sdv_card.specs.EmmcBringUp.{selected_device}
use Rattle.sdv_outcomes.specs.Representative.{IsRepresentative}
use Rattle.sdv_outcomes.specs.OutcomeSteps.{step_outcome, GivesBlocks}

-- at a card beside its host, a legal event in bounds has an outcome that is of no step of the card
pub record HasOtherOutcome (k : Kind) (c : Card) (h : Host) : Type 0 where
  pub event : ScriptEvent
  pub outcome : Outcome
  pub pair : IsPair k c h
  pub made : Makes k event h
  pub legal : EventLegal event c
  pub bounds : InBounds event c
  pub on_card : TransferOnCard c
  pub gives : GivesBlocks event
  pub may : May (outcomes_code k (pair_code c h) (event_of event)) outcome
  pub none : (returned : Return) (u : Card) → Step event c returned u →
      outcome ≡ step_outcome k event c h returned u → ⊥

-- it has one, whichever 1,024 blocks the card holds, beside a host with this relative card address
abbrev pub AlwaysHasOther : Kind → (List Block → Card) → (rca : ℕ) → Type 0
AlwaysHasOther k card rca = (contents : List Block) → AreBlocks 1024 contents →
    HasOtherOutcome k (card contents) (record (host_at_start 0) { rca = rca })

-- a selected SD card with an error of an earlier write: CMD13 shows a doubt
abbrev pub card_with_error : List Block → Card
card_with_error contents = record (selected_card contents) { unshown_error = true }

-- an SD card of version 1 in idle state: CMD8 has no response
abbrev pub card_of_version_1 : List Block → Card
card_of_version_1 contents = record (example_card contents) { version = 1; block_unit = false }

-- a selected device whose boot partitions have no blocks: a CMD6 that asks for access to one fails
abbrev pub device_without_boot_blocks : List Block → Card
device_without_boot_blocks contents = selected_device contents

-- a representative SD card in identification state: beside a host that holds 0, an unheard CMD3 leads to no match
abbrev pub identified_card : List Block → Card
identified_card contents = record (example_card contents) { state = Ident }

-- each premise of a representative card is needed, and so is the exception
pub record PremisesAreNeeded : Type 0 where
  pub all_shown : AlwaysHasOther Sd card_with_error 0x1234
  pub version : AlwaysHasOther Sd card_of_version_1 0x1234
  pub boot_blocks : AlwaysHasOther Emmc device_without_boot_blocks 1
  pub exception : AlwaysHasOther Sd identified_card 0
  pub representative : (contents : List Block) → IsRepresentative (identified_card contents)
