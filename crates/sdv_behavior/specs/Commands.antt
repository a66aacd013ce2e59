-- Which command of the standard a frame is, to a simulated card of a kind.
-- SD Physical Layer Simplified Specification, section 4.7.4 (detailed command description); JESD84-B51, section 6.10.4.
use Rattle.std.specs.Prelude.{Bool, true, false, ℕ, ◌==◌, ◌&&◌, nat_le, Option, None}
use Rattle.sdv_registers.specs.declared.kind.Kind.{Kind}
use Rattle.sdv_registers.specs.declared.kind.Kind.TheVariants.{Sd, Emmc}
use Rattle.sdv_card.specs.declared.state.Width.TheVariants.{One, Four, Eight}
use Rattle.sdv_card.specs.declared.state.Partition.TheVariants.{User, Boot1, Boot2}
use Rattle.sdv_card.specs.declared.command.Setting.TheVariants.{Lines, Access}
use Rattle.sdv_card.specs.declared.command.Order.{Order}
use Rattle.sdv_card.specs.declared.command.Order.TheVariants.{GoIdleState, SendOpCond, AllSendCid, SendRelativeAddress, SetRelativeAddress, SetBusWidth, Switch, SelectCard, SendIfCond, SendExtCsd, SendCsd, SendCid, StopTransmission, SendStatus, SetBlockLength, ReadSingleBlock, ReadMultipleBlock, SetBlockCount, WriteBlock, WriteMultipleBlock, EraseBlockStart, EraseBlockEnd, EraseGroupStart, EraseGroupEnd, Erase, SdSendOpCond, SendScr, AppCommand}
use Rattle.sdv_card.specs.CommandTable.{order_if}
use Rattle.sdv_behavior.specs.RowTaken.{count_of}

-- the command has this index and this argument
abbrev pub is_sent : (index argument : ℕ) → ℕ → ℕ → Bool
is_sent index argument i a = (index == i) && (argument == a)

-- No frame carries the count of CMD18 and CMD25: it is the preset count, or one. CMD7 deselects a card by its address.
abbrev pub sd_order_read : (preset index argument : ℕ) → Option Order
sd_order_read preset index argument =
    order_if (is_sent index argument 0 0) GoIdleState (
    order_if (is_sent index argument 2 0) AllSendCid (
    order_if (is_sent index argument 3 0) SendRelativeAddress (
    order_if (is_sent index argument 6 0) (SetBusWidth One) (
    order_if (is_sent index argument 6 2) (SetBusWidth Four) (
    order_if (index == 7) SelectCard (
    order_if (is_sent index argument 8 0x000001aa) SendIfCond (
    order_if (index == 9) SendCsd (
    order_if (index == 10) SendCid (
    order_if (is_sent index argument 12 0) StopTransmission (
    order_if (index == 13) SendStatus (
    order_if (is_sent index argument 16 512) SetBlockLength (
    order_if (index == 17) ReadSingleBlock (
    order_if (index == 18) (ReadMultipleBlock (count_of preset)) (
    order_if (index == 24) WriteBlock (
    order_if (index == 25) (WriteMultipleBlock (count_of preset)) (
    order_if (index == 32) EraseBlockStart (
    order_if (index == 33) EraseBlockEnd (
    order_if (is_sent index argument 38 0) Erase (
    order_if (is_sent index argument 41 0x00ff8000) (SdSendOpCond false) (
    order_if (is_sent index argument 41 0x40ff8000) (SdSendOpCond true) (
    order_if (is_sent index argument 51 0) SendScr (
    order_if (index == 55) AppCommand None))))))))))))))))))))))

abbrev pub emmc_order_read : (preset index argument : ℕ) → Option Order
emmc_order_read preset index argument =
    order_if (is_sent index argument 0 0) GoIdleState (
    order_if (is_sent index argument 1 0x40ff8080) SendOpCond (
    order_if (is_sent index argument 2 0) AllSendCid (
    order_if (is_sent index argument 3 0x00010000) SetRelativeAddress (
    order_if (is_sent index argument 6 0x03b70000) (Switch (Lines One)) (
    order_if (is_sent index argument 6 0x03b70100) (Switch (Lines Four)) (
    order_if (is_sent index argument 6 0x03b70200) (Switch (Lines Eight)) (
    order_if (is_sent index argument 6 0x03b30000) (Switch (Access User)) (
    order_if (is_sent index argument 6 0x03b30100) (Switch (Access Boot1)) (
    order_if (is_sent index argument 6 0x03b30200) (Switch (Access Boot2)) (
    order_if (index == 7) SelectCard (
    order_if (is_sent index argument 8 0) SendExtCsd (
    order_if (index == 9) SendCsd (
    order_if (index == 10) SendCid (
    order_if (is_sent index argument 12 0) StopTransmission (
    order_if (index == 13) SendStatus (
    order_if (is_sent index argument 16 512) SetBlockLength (
    order_if (index == 17) ReadSingleBlock (
    order_if (index == 18) (ReadMultipleBlock (count_of preset)) (
    order_if ((index == 23) && nat_le 1 argument && nat_le argument 65535) (SetBlockCount argument) (
    order_if (index == 24) WriteBlock (
    order_if (index == 25) (WriteMultipleBlock (count_of preset)) (
    order_if (index == 35) EraseGroupStart (
    order_if (index == 36) EraseGroupEnd (
    order_if (is_sent index argument 38 0) Erase (
    order_if (is_sent index argument 38 1) Erase (
    order_if (is_sent index argument 38 3) Erase None))))))))))))))))))))))))))

-- none where no card of the kind has the command
unfoldable pub order_read : Kind → (preset index argument : ℕ) → Option Order
order_read Sd preset index argument = sd_order_read preset index argument
order_read Emmc preset index argument = emmc_order_read preset index argument
