-- Where an event is not legal at a shape to which a history leads, it is not legal at some card after such a run.
-- This project's own.
use Rattle.std.specs.Prelude.{◌≡◌, ◌↔◌, false, ℕ, List}
use Rattle.sdv_registers.specs.declared.kind.Kind.{Kind}
use Rattle.sdv_card.specs.declared.event.Ask.{Ask}
use Rattle.sdv_card.specs.declared.event.Event.{Event}
use Rattle.sdv_card.specs.declared.event.Event.TheVariants.{Send}
use Rattle.sdv_card.specs.declared.command.Order.{Order}
use Rattle.sdv_card.specs.Lists.{May}
use Rattle.sdv_card.specs.CommandTable.{Asks}
use Rattle.sdv_card.specs.ScriptEvent.{ScriptEvent, event_of}
use Rattle.sdv_card.specs.HostEvents.{Makes}
use Rattle.sdv_card.specs.Legal.{EventLegal, InBounds}
use Rattle.sdv_card.specs.LegalShapes.{legal_code}
use Rattle.sdv_card.specs.Code.{digits}
use Rattle.sdv_card.specs.Shapes.{start_codes}
use Rattle.sdv_card.specs.Profile.{most_blocks}
use Rattle.sdv_outcomes.specs.Histories.{Entry, code_after, IsHistory, CommandWithin}
use Rattle.sdv_outcomes.specs.Runs.{IsEvent}
use Rattle.sdv_outcomes.specs.StartCards.{most_boot_blocks, IsWithinMost, StartRun}

-- a run of a card of the profile from its start, after which the event is not legal
pub record IllegalRun (k : Kind) (code : ℕ) (entries : List Entry) (event : Event) (position : ℕ) (variables : ℕ)
    : Type 0 where
  pub before : StartRun k code entries variables
  -- the event is not legal at the last card, however the host makes it
  pub illegal : (x : ScriptEvent) → event_of x ≡ event → Makes k x before.run.host → EventLegal x before.run.last → ⊥
  -- and the host can make it
  pub event_made : ScriptEvent
  pub is : IsEvent event position event_made
  pub made : Makes k event_made before.run.host
  -- a command of the table is in bounds there exactly where it is for a card of the profile with the most blocks
  pub bounds : (ask : Ask) (order : Order) → event ≡ Send ask → Asks k ask order →
      InBounds event_made before.run.last ↔
      CommandWithin (most_blocks k (digits code).block_unit) (most_boot_blocks k) (code_after code entries) ask
      position

abbrev pub IllegalShapesAreReal : Kind → Type 0
IllegalShapesAreReal k = (code : ℕ) (entries : List Entry) (event : Event) (position : ℕ) (variables : ℕ) →
    May start_codes code → IsHistory k false code entries → IsWithinMost k code entries →
    legal_code k (code_after code entries) event ≡ false →
    IllegalRun k code entries event position variables
