-- The calls of a port, and what it means that a port which shows a card keeps the tables.
use Rattle.std.specs.Prelude.{◌≡◌, Bool, true, false, IsTrue, ℕ, List, Option, Some}
use Rattle.sdv_registers.specs.declared.kind.Kind.{Kind}
use Rattle.sdv_frames.specs.declared.command.Command.{Command}
use Rattle.sdv_frames.specs.declared.reply.Expect.{Expect}
use Rattle.sdv_card.specs.declared.state.Transfer.{Transfer}
use Rattle.sdv_card.specs.declared.state.Transfer.TheVariants.{ReadDue, WriteDue}
use Rattle.sdv_card.specs.declared.event.Ask.{Ask}
use Rattle.sdv_card.specs.CommandTable.{expect_of}
use Rattle.sdv_card.specs.Card.{Card, Block}
use Rattle.sdv_card.specs.Host.{Host}
use Rattle.sdv_card.specs.HostEvents.{Makes}
use Rattle.sdv_card.specs.ScriptEvent.{ScriptEvent, SendCommand, ReceiveBlocks, ReceiveRegister, GiveBlocks, AwaitReady, Return}
use Rattle.sdv_card.specs.Modes.{line_count}
use Rattle.sdv_card.specs.Shapes.{IsPair}
use Rattle.sdv_card.specs.Legal.{EventLegal, InBounds, TransferOnCard}
use Rattle.sdv_card.specs.Step.{Step}

-- a call of a port, without what it returns
pub data Call : Type 0 where
  Exchange : (command : Command) (expect : Expect) → Call
  -- over so many data lines: room for so many blocks, or for so many bytes of a register, or these blocks
  DataIn : (lines count : ℕ) → Call
  DataInRegister : (lines count : ℕ) → Call
  DataOut : (lines : ℕ) (blocks : List Block) → Call
  WaitWhileBusy : Call

-- the command of an ask
abbrev pub command_of : Ask → (argument : ℕ) → Command
command_of ask argument = record { index = ask.index; argument = argument }

-- the call that an event becomes: of a command's position the port sees the argument alone
abbrev pub call_of : Kind → ScriptEvent → Call
call_of k (SendCommand ask position argument) = Exchange (command_of ask argument) (expect_of k ask)
call_of k (ReceiveBlocks lines count) = DataIn (line_count lines) count
call_of k (ReceiveRegister lines count) = DataInRegister (line_count lines) count
call_of k (GiveBlocks lines blocks) = DataOut (line_count lines) blocks
call_of k AwaitReady = WaitWhileBusy

-- a phase of blocks is due whose count the card was told: it is one block, or the count was preset
abbrev pub count_known : Transfer → Bool
count_known ReadDue = true
count_known WriteDue = true
count_known transfer = false

-- The card that a port shows, but for the announced count of an open transfer, which no frame carries: that is the
-- count of the script's events.
pub record Shows {S : Type 0} (card : S → Option Card) (s : S) (c : Card) : Type 0 where
  pub shown : Card
  pub shows : card s ≡ Some shown
  pub same : record shown { announced = c.announced } ≡ c
  pub count : IsTrue (count_known c.transfer) → shown.announced ≡ c.announced

-- at a phase or a wait, where a phase of blocks is due, its blocks lie on the card
abbrev pub PhaseOnCard : ScriptEvent → Card → Type 0
PhaseOnCard (SendCommand ask position argument) c = Unit {0}
PhaseOnCard event c = TransferOnCard c

-- The host beside a card makes the event, which is legal at the card and in bounds, and the blocks of a phase lie on the
-- card.
pub record IsFine (k : Kind) (event : ScriptEvent) (c : Card) (h : Host) : Type 0 where
  pub pair : IsPair k c h
  pub made : Makes k event h
  pub legal : EventLegal event c
  pub bounds : InBounds event c
  pub on_card : PhaseOnCard event c

-- what a call did is a step of the card, and the port shows the card after it
pub record Kept {S : Type 0} (card : S → Option Card) (event : ScriptEvent) (c : Card) (returned : Return)
    (s' : S) : Type 0 where
  pub after : Card
  pub step : Step event c returned after
  pub shown : Shows card s' after

-- A port that shows a card keeps the tables: the call of each legal event in bounds is a step of that card, if some
-- host beside the card makes the event, and the blocks of a phase lie on the card. Of other calls nothing is known.
abbrev pub KeepsTables : {S : Type 0} → (S → Call → Return → S → Type 0) → (S → Option Card) → Type 0
KeepsTables steps card =
    (s s' : _) (k : Kind) (event : ScriptEvent) (c : Card) (h : Host) (returned : Return) →
    Shows card s c → IsFine k event c h → steps s (call_of k event) returned s' → Kept card event c returned s'
