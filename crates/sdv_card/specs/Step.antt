-- The steps of a card: at each event, what it may return and the card afterwards.
-- SD Physical Layer Simplified Specification, sections 4.2 and 4.3; JESD84-B51, sections 6.4 and 6.6.
use Rattle.std.specs.Prelude.{ℕ}
use Rattle.sdv_card.specs.declared.event.Ask.{Ask}
use Rattle.sdv_card.specs.declared.command.Order.{Order}
use Rattle.sdv_card.specs.declared.answer.Answer.{Answer}
use Rattle.sdv_card.specs.CommandTable.{Asks}
use Rattle.sdv_card.specs.ScriptEvent.{ScriptEvent, SendCommand, ReceiveBlocks, ReceiveRegister, GiveBlocks, AwaitReady, Return, Answered, BlocksIn, RegisterIn, BlocksOut, Waited}
use Rattle.sdv_card.specs.Card.{Card}
use Rattle.sdv_card.specs.Exchange.{Exchanges}
use Rattle.sdv_card.specs.Phases.{PhaseIn, PhaseInRegister, PhaseOut, WaitEnds}

pub record Sends (ask : Ask) (argument : ℕ) (c : Card) (answer : Answer) (u : Card) : Type 0 where
  pub order : Order
  pub asks : Asks c.kind ask order
  pub exchange : Exchanges order argument c answer u

-- a step of a card
abbrev pub Step : ScriptEvent → Card → Return → Card → Type 0
Step (SendCommand ask position argument) c (Answered answer) u = Sends ask argument c answer u
Step (ReceiveBlocks lines count) c (BlocksIn end blocks) u = PhaseIn count end blocks c u
Step (ReceiveRegister lines count) c (RegisterIn end bytes) u = PhaseInRegister count end bytes c u
Step (GiveBlocks lines blocks) c (BlocksOut end) u = PhaseOut blocks end c u
Step AwaitReady c (Waited end) u = WaitEnds end c u
Step event c returned u = ⊥
