-- Which events a host can make, by what it knows.
-- SD Physical Layer Simplified Specification, section 4.7.4; JESD84-B51, section 6.10.4.
use Rattle.std.specs.Prelude.{◌≡◌, ℕ, length}
use Rattle.sdv_registers.specs.declared.kind.Kind.{Kind}
use Rattle.sdv_card.specs.declared.state.Width.{Width}
use Rattle.sdv_card.specs.declared.event.Ask.{Ask}
use Rattle.sdv_card.specs.CommandTable.{argument_of}
use Rattle.sdv_card.specs.ScriptEvent.{ScriptEvent, SendCommand, ReceiveBlocks, ReceiveRegister, GiveBlocks, AwaitReady}
use Rattle.sdv_card.specs.Host.{Host}

-- what is sent with an ask: the host's relative card address, or the address of some block, or what the command table
-- says
pub record ArgumentFits (k : Kind) (ask : Ask) (argument : ℕ) (h : Host) : Type 0 where
  pub address : ℕ
  pub same : argument ≡ argument_of k ask h.rca address

-- a phase of a host uses its data lines, and has the size that is due
pub record PhaseFits (h : Host) (lines : Width) (count due : ℕ) : Type 0 where
  pub lines_are : lines ≡ h.lines
  pub size : count ≡ due

-- a phase uses the data lines of the host, and is as long as was announced, or asked for, last
abbrev pub Makes : Kind → ScriptEvent → Host → Type 0
Makes k (SendCommand ask position argument) h = ArgumentFits k ask argument h
Makes k (ReceiveBlocks lines count) h = PhaseFits h lines count h.announced
Makes k (ReceiveRegister lines count) h = PhaseFits h lines count h.register_length
Makes k (GiveBlocks lines blocks) h = PhaseFits h lines (length blocks) h.announced
Makes k AwaitReady h = Unit {0}
