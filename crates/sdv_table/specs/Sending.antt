-- How a command is SENT: what a host must know of it before the command, by the command table of the card's kind.
-- SD Physical Layer Simplified Specification, section 4.7.4 (detailed command description); JESD84-B51, section 6.10.4.
use Rattle.std.specs.Prelude.{◌≡◌, ◌==◌, ◌*◌, ℕ, List, if◌then◌else◌, Option, Some, None}
use Rattle.sdv_frames.specs.declared.reply.Expect.{Expect}
use Rattle.sdv_frames.specs.declared.reply.Expect.TheVariants as expects
use Rattle.sdv_frames.specs.declared.reply.Reply.TheVariants.{R2, R6}
use Rattle.sdv_registers.specs.Status.{rca as published_rca}
use Rattle.sdv_registers.specs.declared.kind.Kind.{Kind}
use Rattle.sdv_card.specs.declared.event.Ask.{Ask}
use Rattle.sdv_card.specs.declared.command.Order.{Order}
use Rattle.sdv_card.specs.declared.command.Order.TheVariants.{Switch, SelectCard, SendExtCsd, SendCsd, SendCid, StopTransmission, SendStatus, ReadSingleBlock, ReadMultipleBlock, WriteBlock, WriteMultipleBlock, EraseBlockStart, EraseBlockEnd, EraseGroupStart, EraseGroupEnd, Erase, SendScr, AppCommand}
use Rattle.sdv_card.specs.declared.answer.Answer.{Answer}
use Rattle.sdv_card.specs.declared.answer.Answer.TheVariants.{Reply}
use Rattle.sdv_card.specs.Host.{Host, host_after_order}
use Rattle.sdv_card.specs.CommandTable.{order_of, argument_of, expect_of}
use Rattle.sdv_table.specs.declared.sending.Data.{Data}
use Rattle.sdv_table.specs.declared.sending.Data.TheVariants as uses
use Rattle.sdv_table.specs.declared.sending.Source.{Source}
use Rattle.sdv_table.specs.declared.sending.Source.TheVariants as sources
use Rattle.sdv_table.specs.declared.sending.Sending.{Sending}

-- what follows an order on the data lines, where the card takes it
abbrev pub data_after : Order → Data
data_after SelectCard = uses.Busy
data_after (Switch setting) = uses.Busy
data_after StopTransmission = uses.Busy
data_after Erase = uses.Busy
data_after ReadSingleBlock = uses.BlocksIn
data_after (ReadMultipleBlock n) = uses.BlocksIn
data_after WriteBlock = uses.BlocksOut
data_after (WriteMultipleBlock n) = uses.BlocksOut
data_after SendScr = uses.Scr
data_after SendExtCsd = uses.ExtCsd
-- a card that takes it as ACMD13 sends its SD status
data_after SendStatus = uses.SdStatus
data_after order = uses.Nothing

abbrev pub data_or_nothing : Option Order → Data
data_or_nothing None = uses.Nothing
data_or_nothing (Some order) = data_after order

-- where the argument comes from
abbrev pub source_of : Order → Source
source_of SelectCard = sources.Rca
source_of SendCsd = sources.Rca
source_of SendCid = sources.Rca
source_of SendStatus = sources.Rca
source_of AppCommand = sources.Rca
source_of ReadSingleBlock = sources.Address
source_of (ReadMultipleBlock n) = sources.Address
source_of WriteBlock = sources.Address
source_of (WriteMultipleBlock n) = sources.Address
source_of EraseBlockStart = sources.Address
source_of EraseBlockEnd = sources.Address
source_of EraseGroupStart = sources.Address
source_of EraseGroupEnd = sources.Address
source_of order = sources.Own

abbrev pub source_or_own : Option Order → Source
source_or_own None = sources.Own
source_or_own (Some order) = source_of order

-- The argument is that of a host whose relative card address is 0, at block 0: so it is what is sent, of a command with
-- an argument of its own.
abbrev pub sending_of : Kind → Ask → Sending
sending_of k ask = record {
  source = source_or_own (order_of k ask);
  argument = argument_of k ask 0 0;
  expect = expect_of k ask;
  follows = data_or_nothing (order_of k ask);
}

-- A PLAYER NEEDS NO COMMAND TABLE: what is sent, and what the host knows after the answer, follow from the row.

abbrev pub argument_from : Source → (argument rca address : ℕ) → ℕ
argument_from sources.Own argument rca address = argument
argument_from sources.Rca argument rca address = 65536 * rca
argument_from sources.Address argument rca address = address

abbrev pub rca_from : Answer → ℕ → ℕ
rca_from (Reply (R6 word)) rca = published_rca word
rca_from answer rca = rca

abbrev pub rca_after_3 : Expect → Answer → ℕ → ℕ
rca_after_3 expects.R6 answer rca = rca_from answer rca
rca_after_3 expect answer rca = 1

abbrev pub csd_from : Answer → Option (List ℕ) → Option (List ℕ)
csd_from (Reply (R2 bytes)) csd = Some bytes
csd_from answer csd = csd

-- the blocks that were announced last, and the bytes of the register that was asked for last
abbrev pub announced_from : Data → (count before : ℕ) → ℕ
announced_from uses.BlocksIn count before = count
announced_from uses.BlocksOut count before = count
announced_from follows count before = before

abbrev pub length_from : Data → (before : ℕ) → ℕ
length_from uses.Scr before = 8
length_from uses.SdStatus before = 64
length_from uses.ExtCsd before = 512
length_from follows before = before

-- the argument, by the relative card address that the host holds and the address of the block
abbrev pub argument_by : Sending → (rca address : ℕ) → ℕ
argument_by s rca address = argument_from s.source s.argument rca address

-- the relative card address: 0 after CMD0; after CMD3 the one that an R6 publishes, or 1 where no R6 is waited for
abbrev pub rca_by : (index : ℕ) → Expect → Answer → ℕ → ℕ
rca_by index expect answer rca =
    if index == 0 then 0 else (if index == 3 then rca_after_3 expect answer rca else rca)

-- the CSD is what an R2 to CMD9 has
abbrev pub csd_by : (index : ℕ) → Answer → Option (List ℕ) → Option (List ℕ)
csd_by index answer csd = if index == 9 then csd_from answer csd else csd

-- the host after a command
abbrev pub host_by : Ask → Sending → Answer → Host → Host
host_by ask s answer h = record h {
  rca = rca_by ask.index s.expect answer h.rca;
  csd = csd_by ask.index answer h.csd;
  announced = announced_from s.follows ask.count h.announced;
  register_length = length_from s.follows h.register_length;
}

-- what a row tells of a command is enough
pub record IsEnough (k : Kind) (ask : Ask) : Type 0 where
  pub argument : (rca address : ℕ) → argument_by (sending_of k ask) rca address ≡ argument_of k ask rca address
  pub host : (answer : Answer) (h : Host)
      → host_by ask (sending_of k ask) answer h ≡ host_after_order (order_of k ask) answer h
