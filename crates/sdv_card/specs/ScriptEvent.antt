-- The events of a script as a run sees them, and what each may return.
-- SD Physical Layer Simplified Specification, sections 4.3.3 and 4.3.4; JESD84-B51, section 6.6.
use Rattle.std.specs.Prelude.{◌≡◌, ℕ, List, length}
use Rattle.sdv_card.specs.declared.state.Width.{Width}
use Rattle.sdv_card.specs.declared.event.Ask.{Ask}
use Rattle.sdv_card.specs.declared.event.Event.{Event}
use Rattle.sdv_card.specs.declared.event.Event.TheVariants.{Send, RecvBlocks, RecvReg, Give, Wait}
use Rattle.sdv_card.specs.declared.answer.Answer.{Answer}
use Rattle.sdv_card.specs.declared.answer.DataEnd.{DataEnd}
use Rattle.sdv_card.specs.declared.answer.WaitEnd.{WaitEnd}
use Rattle.sdv_card.specs.Card.{Block}

pub data ScriptEvent : Type 0 where
  -- A command with the blocks that it announces, the position that the script gives, in blocks, and the argument that
  -- is sent: whole numbers without a bound. The position of a command without an address is 0.
  SendCommand : (ask : Ask) (position argument : ℕ) → ScriptEvent
  -- a phase of so many blocks from the card, over the host's data lines
  ReceiveBlocks : (lines : Width) (count : ℕ) → ScriptEvent
  -- a phase of so many bytes of a register
  ReceiveRegister : (lines : Width) (count : ℕ) → ScriptEvent
  -- a phase of these blocks to the card
  GiveBlocks : (lines : Width) (blocks : List Block) → ScriptEvent
  -- a wait while the card is busy
  AwaitReady : ScriptEvent

-- the event without its argument, lengths and blocks
abbrev pub event_of : ScriptEvent → Event
event_of (SendCommand ask position argument) = Send ask
event_of (ReceiveBlocks lines count) = RecvBlocks
event_of (ReceiveRegister lines count) = RecvReg
event_of (GiveBlocks lines blocks) = Give
event_of AwaitReady = Wait

-- what an event returns
pub data Return : Type 0 where
  Answered : (answer : Answer) → Return
  -- with the blocks, or the bytes, that the host then holds: anything, where the phase was cut
  BlocksIn : (end : DataEnd) (blocks : List Block) → Return
  RegisterIn : (end : DataEnd) (bytes : List ℕ) → Return
  BlocksOut : (end : DataEnd) → Return
  Waited : (end : WaitEnd) → Return

-- what an event may return, whatever stands behind the port
abbrev pub MayReturn : ScriptEvent → Return → Type 0
MayReturn (SendCommand ask position argument) (Answered answer) = Unit {0}
MayReturn (ReceiveBlocks lines count) (BlocksIn end blocks) = length blocks ≡ count
MayReturn (ReceiveRegister lines count) (RegisterIn end bytes) = length bytes ≡ count
MayReturn (GiveBlocks lines blocks) (BlocksOut end) = Unit {0}
MayReturn AwaitReady (Waited end) = Unit {0}
MayReturn event returned = ⊥
