-- What a host knows of a card, beside the script's variables and flags; how an event changes it; and when it is true.
-- SD Physical Layer Simplified Specification, sections 4.2.3 and 4.3.1; JESD84-B51, sections 6.4 and 6.6.
use Rattle.std.specs.Prelude.{◌==◌, ℕ, List, Option, Some, None, if◌then◌else◌}
use Rattle.sdv_registers.specs.declared.kind.Kind.{Kind}
use Rattle.sdv_registers.specs.Status.{rca as published_rca}
use Rattle.sdv_frames.specs.declared.reply.Reply.TheVariants.{R2, R6}
use Rattle.sdv_card.specs.declared.state.Width.{Width}
use Rattle.sdv_card.specs.declared.command.Order.{Order}
use Rattle.sdv_card.specs.declared.command.Order.TheVariants.{GoIdleState, SendRelativeAddress, SetRelativeAddress, SendCsd, SendExtCsd, SendStatus, SendScr, ReadSingleBlock, ReadMultipleBlock, WriteBlock, WriteMultipleBlock}
use Rattle.sdv_card.specs.declared.answer.Answer.{Answer}
use Rattle.sdv_card.specs.declared.answer.Answer.TheVariants.{Reply}
use Rattle.sdv_card.specs.declared.answer.DataEnd.{DataEnd}
use Rattle.sdv_card.specs.declared.answer.DataEnd.TheVariants.{Ok, Cut}
use Rattle.sdv_card.specs.CommandTable.{order_of}
use Rattle.sdv_card.specs.ScriptEvent.{ScriptEvent, SendCommand, ReceiveRegister, Return, Answered, RegisterIn}

pub record Host : Type 0 where
  -- the script's number variables, and its flags as bits, the first declared ones first and lowest
  pub numbers : List ℕ
  pub flags : ℕ
  -- the relative card address that the host sends
  pub rca : ℕ
  -- the data lines that the host uses
  pub lines : Width
  -- the last CSD and EXT_CSD that the host read
  pub csd : Option (List ℕ)
  pub ext_csd : Option (List ℕ)
  -- the blocks that the host announced last, and the bytes of the register that it asked for last
  pub announced : ℕ
  pub register_length : ℕ

-- AFTER A COMMAND

-- the relative address: an SD card publishes it, an e.MMC device is given 1, be the command lost or not
abbrev pub rca_known : Order → Answer → ℕ → ℕ
rca_known GoIdleState answer rca = 0
rca_known SendRelativeAddress (Reply (R6 word)) rca = published_rca word
rca_known SetRelativeAddress answer rca = 1
rca_known order answer rca = rca

abbrev pub csd_known : Order → Answer → Option (List ℕ) → Option (List ℕ)
csd_known SendCsd (Reply (R2 bytes)) csd = Some bytes
csd_known order answer csd = csd

-- the blocks that were announced last
abbrev pub announced_by : Order → ℕ → ℕ
announced_by ReadSingleBlock before = 1
announced_by (ReadMultipleBlock n) before = n
announced_by WriteBlock before = 1
announced_by (WriteMultipleBlock n) before = n
announced_by order before = before

-- the bytes of the register that was asked for last: SCR, SD status, EXT_CSD
abbrev pub register_length_by : Order → ℕ → ℕ
register_length_by SendScr before = 8
register_length_by SendStatus before = 64
register_length_by SendExtCsd before = 512
register_length_by order before = before

abbrev pub host_after_order : Option Order → Answer → Host → Host
host_after_order None answer h = h
host_after_order (Some order) answer h = record h {
  rca = rca_known order answer h.rca;
  csd = csd_known order answer h.csd;
  announced = announced_by order h.announced;
  register_length = register_length_by order h.register_length;
}

-- AFTER A REGISTER PHASE: a phase of 512 bytes that ended well gives the EXT_CSD
abbrev pub ext_csd_known : ℕ → DataEnd → List ℕ → Option (List ℕ) → Option (List ℕ)
ext_csd_known count Ok bytes ext_csd = if count == 512 then Some bytes else ext_csd
ext_csd_known count Cut bytes ext_csd = ext_csd

-- the host after an event, by what it returned
abbrev pub host_after : Kind → ScriptEvent → Return → Host → Host
host_after k (SendCommand ask position argument) (Answered answer) h = host_after_order (order_of k ask) answer h
host_after k (ReceiveRegister lines count) (RegisterIn end bytes) h =
    record h { ext_csd = ext_csd_known count end bytes h.ext_csd }
host_after k event returned h = h
