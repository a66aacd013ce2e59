-- The laws that tie what is computed at codes to cards: stated here for a kind, and proved where a table is.
use Rattle.std.specs.Prelude.{◌≡◌, ◌<◌, ◌↔◌, Bool, false, IsTrue, ℕ, List, Option, Some, None}
use Rattle.sdv_registers.specs.declared.kind.Kind.{Kind}
use Rattle.sdv_registers.specs.declared.kind.Kind.TheVariants.{Emmc}
use Rattle.sdv_registers.specs.ExtCsd.{sec_count, boot_size_mult}
use Rattle.sdv_card.specs.declared.guard.Guard.{Guard}
use Rattle.sdv_card.specs.declared.guard.Guard.TheVariants.{Ok as WentWell}
use Rattle.sdv_card.specs.declared.command.Order.{Order}
use Rattle.sdv_card.specs.declared.command.Order.TheVariants.{ReadSingleBlock, ReadMultipleBlock, WriteBlock, WriteMultipleBlock, EraseBlockStart, EraseBlockEnd, EraseGroupStart, EraseGroupEnd}
use Rattle.sdv_card.specs.declared.event.Ask.{Ask}
use Rattle.sdv_card.specs.declared.event.Event.{Event}
use Rattle.sdv_card.specs.declared.event.Outcome.{Outcome}
use Rattle.sdv_card.specs.Lists.{May}
use Rattle.sdv_card.specs.Card.{Card}
use Rattle.sdv_card.specs.Host.{Host, host_after}
use Rattle.sdv_card.specs.ScriptEvent.{ScriptEvent, SendCommand, Return, event_of}
use Rattle.sdv_card.specs.CommandTable.{order_of, addressed_blocks}
use Rattle.sdv_card.specs.Expected.{Expected}
use Rattle.sdv_card.specs.HostEvents.{Makes}
use Rattle.sdv_card.specs.Taken.{SameCard}
use Rattle.sdv_card.specs.Phases.{blocks_due, register_due}
use Rattle.sdv_card.specs.Legal.{EventLegal, InBounds, TransferOnCard}
use Rattle.sdv_card.specs.Step.{Step}
use Rattle.sdv_card.specs.Shapes.{view, pair_code, is_shape, IsPair, start_codes}
use Rattle.sdv_card.specs.Profile.{IsAtStart, host_at_start}
use Rattle.sdv_card.specs.Outcomes.{branch, outcome_of, outcomes_code}
use Rattle.sdv_card.specs.LegalShapes.{legal_code}
use Rattle.sdv_card.specs.Seen.{seen_of}
use Rattle.sdv_card.specs.Guards.{guard_fits, passes, verdict, may_hold, may_fail}

-- what the EXT_CSD that a host holds has of the card's register: the sizes that it tells
pub record SameSizes (held register : List ℕ) : Type 0 where
  pub sectors : sec_count held ≡ sec_count register
  pub boot : boot_size_mult held ≡ boot_size_mult register

-- what a host knows of a card is true
pub record Sound (c : Card) (h : Host) : Type 0 where
  -- the CSD that it holds is the card's, and the EXT_CSD tells the card's sizes; an SD card has none
  pub csd : (bytes : List ℕ) → h.csd ≡ Some bytes → bytes ≡ c.csd
  pub ext_csd : (bytes : List ℕ) → c.kind ≡ Emmc → h.ext_csd ≡ Some bytes → SameSizes bytes c.ext_csd
  -- a block transfer that is due has the count that it announced last
  pub blocks : IsTrue (blocks_due c.transfer) → h.announced ≡ c.announced
  -- where a register is due, it sent a command that fixes the register's length
  pub register : IsTrue (register_due c.transfer) → 0 < h.register_length

-- the code of a card beside its host is a shape
abbrev pub PairsHaveShapes : Kind → Type 0
PairsHaveShapes k = (c : Card) (h : Host) → IsPair k c h → IsTrue (is_shape k (view c h))

-- an event is legal at a card beside its host exactly where it is legal at their code
abbrev pub LegalIsExact : Kind → Type 0
LegalIsExact k = (event : ScriptEvent) (c : Card) (h : Host) → IsPair k c h → Makes k event h →
    EventLegal event c ↔ IsTrue (legal_code k (pair_code c h) (event_of event))

-- a card has a step at each legal event
pub record SomeStep (event : ScriptEvent) (c : Card) : Type 0 where
  pub returned : Return
  pub after : Card
  pub step : Step event c returned after

abbrev pub HasStep : Kind → Type 0
HasStep k = (event : ScriptEvent) (c : Card) (h : Host) → IsPair k c h → EventLegal event c → SomeStep event c

-- a legal event has an outcome
pub record SomeOutcome (k : Kind) (code : ℕ) (event : Event) : Type 0 where
  pub outcome : Outcome
  pub may : May (outcomes_code k code event) outcome

abbrev pub HasOutcome : Kind → Type 0
HasOutcome k = (code : ℕ) (event : Event) → IsTrue (legal_code k code event) → SomeOutcome k code event

-- each legal step of a card beside its host is among the outcomes at their code
abbrev pub StepsAreOutcomes : Kind → Type 0
StepsAreOutcomes k = (event : ScriptEvent) (c : Card) (h : Host) (returned : Return) (u : Card) →
    IsPair k c h → Makes k event h → EventLegal event c → Step event c returned u →
    May (outcomes_code k (pair_code c h) (event_of event))
    (outcome_of (branch (view u (host_after k event returned h)) (seen_of k c.mode.error returned)))

-- what each step returns is what the host waits for
abbrev pub StepsAreExpected : Kind → Type 0
StepsAreExpected k = (event : ScriptEvent) (c : Card) (returned : Return) (u : Card) →
    k ≡ c.kind → Step event c returned u → Expected k event returned

-- a step leads from a card beside its host to a card beside its host
abbrev pub StepsKeepPairs : Kind → Type 0
StepsKeepPairs k = (event : ScriptEvent) (c : Card) (h : Host) (returned : Return) (u : Card) →
    IsPair k c h → Makes k event h → Step event c returned u → IsPair k u (host_after k event returned h)

-- a step changes neither the size of a card nor its registers
abbrev pub StepsKeepSame : Kind → Type 0
StepsKeepSame k = (event : ScriptEvent) (c : Card) (returned : Return) (u : Card) → k ≡ c.kind → Step event c returned u
    → SameCard c u

-- a legal step keeps what the host knows true
abbrev pub StepsKeepSound : Kind → Type 0
StepsKeepSound k = (event : ScriptEvent) (c : Card) (h : Host) (returned : Return) (u : Card) →
    IsPair k c h → Makes k event h → EventLegal event c → Step event c returned u → Sound c h
    → Sound u (host_after k event returned h)

-- a legal step in bounds keeps the blocks of a transfer on the card
abbrev pub StepsKeepOnCard : Kind → Type 0
StepsKeepOnCard k = (event : ScriptEvent) (c : Card) (h : Host) (returned : Return) (u : Card) →
    IsPair k c h → EventLegal event c → InBounds event c → Step event c returned u → TransferOnCard c → TransferOnCard u

-- the blocks that a command addresses: those that it moves, or the one that it names
abbrev pub order_blocks : Order → Option ℕ
order_blocks ReadSingleBlock = Some 1
order_blocks (ReadMultipleBlock n) = Some n
order_blocks WriteBlock = Some 1
order_blocks (WriteMultipleBlock n) = Some n
order_blocks EraseBlockStart = Some 1
order_blocks EraseBlockEnd = Some 1
order_blocks EraseGroupStart = Some 1
order_blocks EraseGroupEnd = Some 1
order_blocks order = None

-- an ask addresses the blocks of its command
abbrev pub AsksAddress : Kind → Type 0
AsksAddress k = (ask : Ask) (order : Order) → order_of k ask ≡ Some order → order_blocks order ≡ addressed_blocks ask

-- before the first command
pub record StartHolds (k : Kind) (c : Card) (h : Host) : Type 0 where
  pub pair : IsPair k c h
  pub shape : May start_codes (pair_code c h)
  pub sound : Sound c h
  pub on_card : TransferOnCard c

abbrev pub StartsHold : Kind → Type 0
StartsHold k = (c : Card) (n : ℕ) → k ≡ c.kind → IsAtStart c → StartHolds k c (host_at_start n)

abbrev pub fits_order : Guard → Option Order → Bool
fits_order guard None = false
fits_order guard (Some order) = guard_fits guard order

-- the guard may stand in a case of the event
abbrev pub FitsEvent : Kind → Guard → ScriptEvent → Type 0
FitsEvent k guard (SendCommand ask position argument) = IsTrue (fits_order guard (order_of k ask))
FitsEvent k guard event = guard ≡ WentWell

-- a guard that holds of an answer may hold of what is seen there, and one that fails may fail
pub record VerdictHolds (k : Kind) (guard : Guard) (pending : Bool) (returned : Return) : Type 0 where
  pub held : IsTrue (passes k guard returned) → IsTrue (may_hold (verdict guard (seen_of k pending returned)))
  pub failed : passes k guard returned ≡ false → IsTrue (may_fail (verdict guard (seen_of k pending returned)))

abbrev pub VerdictsHold : Kind → Type 0
VerdictsHold k = (guard : Guard) (event : ScriptEvent) (c : Card) (h : Host) (returned : Return) (u : Card) →
    IsPair k c h → FitsEvent k guard event → Step event c returned u →
    VerdictHolds k guard c.mode.error returned
