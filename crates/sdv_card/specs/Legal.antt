-- When an event is legal at a card, and when it is in bounds.
-- SD Physical Layer Simplified Specification, sections 4.3.3 to 4.3.5, 4.3.9 and 4.8; JESD84-B51, sections 6.6
-- and 6.11. That an event must be legal also after the card's own step is this project's profile.
use Rattle.std.specs.Prelude.{◌≡◌, ◌<◌, ◌≤◌, ◌+◌, ◌*◌, ◌==◌, ◌&&◌, Bool, true, false, IsTrue, ℕ, length, Option, Some, None, if◌then◌else◌}
use Rattle.sdv_card.specs.declared.state.State.{State}
use Rattle.sdv_card.specs.declared.state.State.TheVariants.{Tran, Data, Rcv, Prg}
use Rattle.sdv_card.specs.declared.state.Transfer.{Transfer}
use Rattle.sdv_card.specs.declared.event.Ask.{Ask}
use Rattle.sdv_card.specs.declared.command.Order.{Order}
use Rattle.sdv_card.specs.declared.command.Row.{Row}
use Rattle.sdv_card.specs.declared.command.TakenAs.{TakenAs}
use Rattle.sdv_card.specs.declared.command.TakenAs.TheVariants.{Forbidden, Ignored, By}
use Rattle.sdv_card.specs.Lists.{May}
use Rattle.sdv_card.specs.StateTable.{◌to◌, rows}
use Rattle.sdv_card.specs.RowRules.{length_allows, erase_allows, preset_allows}
use Rattle.sdv_card.specs.CommandTable.{Asks, addressed_blocks}
use Rattle.sdv_card.specs.ScriptEvent.{ScriptEvent, SendCommand, ReceiveBlocks, ReceiveRegister, GiveBlocks, AwaitReady}
use Rattle.sdv_card.specs.Card.{Card, accessed_capacity}
use Rattle.sdv_card.specs.Modes.{same_width}
use Rattle.sdv_card.specs.Settled.{Settled}
use Rattle.sdv_card.specs.Exchange.{card_takes}
use Rattle.sdv_card.specs.Phases.{read_due, register_due, write_due, blocks_due}

-- LEGAL

-- a settled card has the row, and meets its conditions
pub record RowLegal (row : Row) (t : Card) : Type 0 where
  pub target : State
  pub has_row : May (rows t.kind row) (t.state to target)
  pub length : IsTrue (length_allows row (t.block_length == 512))
  pub erase : IsTrue (erase_allows row t.erase)
  pub preset : IsTrue (preset_allows row t.preset)

abbrev pub SettledLegal : TakenAs → Card → Type 0
SettledLegal Forbidden t = ⊥
SettledLegal Ignored t = Unit {0}
SettledLegal (By row) t = RowLegal row t

-- an ask is legal at a card: the command table has it, and it is legal at each settled card
pub record SendLegal (ask : Ask) (argument : ℕ) (c : Card) : Type 0 where
  pub order : Order
  pub asks : Asks c.kind ask order
  pub settled : (t : Card) → Settled c t → SettledLegal (card_takes t order argument) t

-- the phases, by the state and the transfer; the wait, by the state
abbrev pub recv_legal : State → Transfer → Bool
recv_legal Data transfer = read_due transfer
recv_legal state transfer = false

abbrev pub recv_reg_legal : State → Transfer → Bool
recv_reg_legal Data transfer = register_due transfer
recv_reg_legal state transfer = false

abbrev pub give_legal : State → Transfer → Bool
give_legal Rcv transfer = write_due transfer
give_legal state transfer = false

abbrev pub wait_legal : State → Bool
wait_legal Tran = true
wait_legal Prg = true
wait_legal state = false

-- an event is legal at a card: a phase only where the host and the card use the same data lines
abbrev pub EventLegal : ScriptEvent → Card → Type 0
EventLegal (SendCommand ask position argument) c = SendLegal ask argument c
EventLegal (ReceiveBlocks lines count) c = IsTrue (recv_legal c.state c.transfer && same_width lines c.mode.width)
EventLegal (ReceiveRegister lines count) c = IsTrue (recv_reg_legal c.state c.transfer && same_width lines c.mode.width)
EventLegal (GiveBlocks lines blocks) c = IsTrue (give_legal c.state c.transfer && same_width lines c.mode.width)
EventLegal AwaitReady c = IsTrue (wait_legal c.state)

-- IN BOUNDS

-- the argument is the address of the block at this position, in the card's own unit, and the card has so many blocks
-- from there on
pub record Within (c : Card) (position argument count : ℕ) : Type 0 where
  pub unit : argument ≡ (if c.block_unit then position else 512 * position)
  pub room : position + count ≤ accessed_capacity c

abbrev pub BlocksWithin : Option ℕ → Card → (position argument : ℕ) → Type 0
BlocksWithin None c position argument = Unit {0}
BlocksWithin (Some count) c position argument = Within c position argument count

-- an event is in bounds: its address, or the length of its phase
abbrev pub InBounds : ScriptEvent → Card → Type 0
InBounds (SendCommand ask position argument) c = BlocksWithin (addressed_blocks ask) c position argument
InBounds (ReceiveBlocks lines count) c = count ≡ c.announced
InBounds (ReceiveRegister lines count) c = 0 < count
InBounds (GiveBlocks lines blocks) c = length blocks ≡ c.announced
InBounds AwaitReady c = Unit {0}

-- the card has the blocks that its transfer addresses, which are some
pub record HasBlocks (c : Card) : Type 0 where
  pub some : 0 < c.announced
  pub room : c.next_block + c.announced ≤ accessed_capacity c

-- so it is where a block phase is due, as legal commands in bounds leave it
abbrev pub TransferOnCard : Card → Type 0
TransferOnCard c = IsTrue (blocks_due c.transfer) → HasBlocks c
