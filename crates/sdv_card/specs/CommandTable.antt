-- The command tables: which commands a host of a kind can send, with the argument that goes with each and the response
-- that is waited for.
-- SD Physical Layer Simplified Specification, section 4.7.4 (detailed command description); JESD84-B51, section 6.10.4.
use Rattle.std.specs.Prelude.{◌≡◌, Bool, true, false, ℕ, ◌*◌, ◌==◌, ◌&&◌, ◌||◌, nat_le, Option, Some, None, if◌then◌else◌}
use Rattle.sdv_registers.specs.declared.kind.Kind.{Kind}
use Rattle.sdv_registers.specs.declared.kind.Kind.TheVariants.{Sd, Emmc}
use Rattle.sdv_frames.specs.declared.reply.Expect.{Expect}
use Rattle.sdv_frames.specs.declared.reply.Expect.TheVariants.{Nothing, R1, R2, R3, R6, R7}
use Rattle.sdv_card.specs.declared.event.Aim.{Aim}
use Rattle.sdv_card.specs.declared.event.Aim.TheVariants.{Rca, Plain}
use Rattle.sdv_card.specs.declared.event.Ask.{Ask}
use Rattle.sdv_card.specs.declared.state.Width.TheVariants.{One, Four, Eight}
use Rattle.sdv_card.specs.declared.state.Partition.TheVariants.{User, Boot1, Boot2}
use Rattle.sdv_card.specs.declared.command.Setting.TheVariants.{Lines, Access}
use Rattle.sdv_card.specs.declared.command.Order.{Order}
use Rattle.sdv_card.specs.declared.command.Order.TheVariants.{GoIdleState, SendOpCond, AllSendCid, SendRelativeAddress, SetRelativeAddress, SetBusWidth, Switch, SelectCard, DeselectCards, SendIfCond, SendExtCsd, SendCsd, SendCid, StopTransmission, SendStatus, SetBlockLength, ReadSingleBlock, ReadMultipleBlock, SetBlockCount, WriteBlock, WriteMultipleBlock, EraseBlockStart, EraseBlockEnd, EraseGroupStart, EraseGroupEnd, Erase, SdSendOpCond, SendScr, AppCommand}

abbrev pub aim_number : Aim → ℕ
aim_number Rca = 0
aim_number Plain = 1

-- the ask is the line with this index, aim, argument and count
abbrev pub is_line : Ask → ℕ → Aim → ℕ → ℕ → Bool
is_line ask index aim argument count =
    (ask.index == index) && (aim_number ask.aim == aim_number aim) && (ask.argument == argument) && (ask.count == count)

-- the ask is the line with this index and some count from 1 to 65,535
abbrev pub is_counted : Ask → ℕ → Bool
is_counted ask index = is_line ask index Plain 0 ask.count && nat_le 1 ask.count && nat_le ask.count 65535

-- the order of a line, or else that of the lines after it
abbrev pub order_if : Bool → Order → Option Order → Option Order
order_if is order rest = if is then Some order else rest

abbrev pub sd_order : Ask → Option Order
sd_order ask =
    -- by index, aim, argument and count
    order_if (is_line ask 0 Plain 0 0) GoIdleState (
    order_if (is_line ask 2 Plain 0 0) AllSendCid (
    order_if (is_line ask 3 Plain 0 0) SendRelativeAddress (
    order_if (is_line ask 6 Plain 0 0) (SetBusWidth One) (
    order_if (is_line ask 6 Plain 2 0) (SetBusWidth Four) (
    order_if (is_line ask 7 Rca 0 0) SelectCard (
    order_if (is_line ask 7 Plain 0 0) DeselectCards (
    order_if (is_line ask 8 Plain 0 0) SendIfCond (
    order_if (is_line ask 9 Rca 0 0) SendCsd (
    order_if (is_line ask 10 Rca 0 0) SendCid (
    order_if (is_line ask 12 Plain 0 0) StopTransmission (
    order_if (is_line ask 13 Rca 0 0) SendStatus (
    order_if (is_line ask 16 Plain 0 0) SetBlockLength (
    order_if (is_line ask 17 Plain 0 1) ReadSingleBlock (
    order_if (is_counted ask 18) (ReadMultipleBlock ask.count) (
    order_if (is_line ask 24 Plain 0 1) WriteBlock (
    order_if (is_counted ask 25) (WriteMultipleBlock ask.count) (
    order_if (is_line ask 32 Plain 0 0) EraseBlockStart (
    order_if (is_line ask 33 Plain 0 0) EraseBlockEnd (
    order_if (is_line ask 38 Plain 0 0) Erase (
    order_if (is_line ask 41 Plain 0x00ff8000 0) (SdSendOpCond false) (
    order_if (is_line ask 41 Plain 0x40ff8000 0) (SdSendOpCond true) (
    order_if (is_line ask 51 Plain 0 0) SendScr (
    order_if (is_line ask 55 Rca 0 0) AppCommand None)))))))))))))))))))))))

abbrev pub emmc_order : Ask → Option Order
emmc_order ask =
    -- by index, aim, argument and count
    order_if (is_line ask 0 Plain 0 0) GoIdleState (
    order_if (is_line ask 1 Plain 0 0) SendOpCond (
    order_if (is_line ask 2 Plain 0 0) AllSendCid (
    order_if (is_line ask 3 Plain 0 0) SetRelativeAddress (
    order_if (is_line ask 6 Plain 0x03b70000 0) (Switch (Lines One)) (
    order_if (is_line ask 6 Plain 0x03b70100 0) (Switch (Lines Four)) (
    order_if (is_line ask 6 Plain 0x03b70200 0) (Switch (Lines Eight)) (
    order_if (is_line ask 6 Plain 0x03b30000 0) (Switch (Access User)) (
    order_if (is_line ask 6 Plain 0x03b30100 0) (Switch (Access Boot1)) (
    order_if (is_line ask 6 Plain 0x03b30200 0) (Switch (Access Boot2)) (
    order_if (is_line ask 7 Rca 0 0) SelectCard (
    order_if (is_line ask 7 Plain 0 0) DeselectCards (
    order_if (is_line ask 8 Plain 0 0) SendExtCsd (
    order_if (is_line ask 9 Rca 0 0) SendCsd (
    order_if (is_line ask 10 Rca 0 0) SendCid (
    order_if (is_line ask 12 Plain 0 0) StopTransmission (
    order_if (is_line ask 13 Rca 0 0) SendStatus (
    order_if (is_line ask 16 Plain 0 0) SetBlockLength (
    order_if (is_line ask 17 Plain 0 1) ReadSingleBlock (
    order_if (is_counted ask 18) (ReadMultipleBlock ask.count) (
    order_if (is_counted ask 23) (SetBlockCount ask.count) (
    order_if (is_line ask 24 Plain 0 1) WriteBlock (
    order_if (is_counted ask 25) (WriteMultipleBlock ask.count) (
    order_if (is_line ask 35 Plain 0 0) EraseGroupStart (
    order_if (is_line ask 36 Plain 0 0) EraseGroupEnd (
    order_if (is_line ask 38 Plain 0 0) Erase (
    order_if (is_line ask 38 Plain 1 0) Erase (
    order_if (is_line ask 38 Plain 3 0) Erase None)))))))))))))))))))))))))))

-- the order that an ask gives; none where no line of the command table gives the ask
unfoldable pub order_of : Kind → Ask → Option Order
order_of Sd ask = sd_order ask
order_of Emmc ask = emmc_order ask

-- an order that an ask gives
pub record Asks (k : Kind) (ask : Ask) (order : Order) : Type 0 where
  pub line : order_of k ask ≡ Some order

-- What is sent as the argument of an order, by the ask's own argument, the relative card address that the host holds,
-- and the address of a block in the card's unit.
abbrev pub order_argument : Order → (argument rca address : ℕ) → ℕ
order_argument SelectCard argument rca address = 65536 * rca
order_argument SendCsd argument rca address = 65536 * rca
order_argument SendCid argument rca address = 65536 * rca
order_argument SendStatus argument rca address = 65536 * rca
order_argument AppCommand argument rca address = 65536 * rca
order_argument SendOpCond argument rca address = 0x40ff8080
order_argument SetRelativeAddress argument rca address = 0x00010000
order_argument SendIfCond argument rca address = 0x000001aa
order_argument SetBlockLength argument rca address = 512
order_argument (SetBlockCount n) argument rca address = n
order_argument Erase argument rca address = argument
order_argument (SetBusWidth width) argument rca address = argument
order_argument (Switch setting) argument rca address = argument
order_argument (SdSendOpCond high) argument rca address = argument
order_argument ReadSingleBlock argument rca address = address
order_argument (ReadMultipleBlock n) argument rca address = address
order_argument WriteBlock argument rca address = address
order_argument (WriteMultipleBlock n) argument rca address = address
order_argument EraseBlockStart argument rca address = address
order_argument EraseBlockEnd argument rca address = address
order_argument EraseGroupStart argument rca address = address
order_argument EraseGroupEnd argument rca address = address
order_argument order argument rca address = 0

abbrev pub argument_or_none : Option Order → (argument rca address : ℕ) → ℕ
argument_or_none None argument rca address = 0
argument_or_none (Some order) argument rca address = order_argument order argument rca address

-- what is sent as the argument of an ask
abbrev pub argument_of : Kind → Ask → (rca address : ℕ) → ℕ
argument_of k ask rca address = argument_or_none (order_of k ask) ask.argument rca address

-- the response that a host waits for after an order, which repeats the command's index
abbrev pub order_expect : Order → ℕ → Expect
order_expect GoIdleState index = Nothing
order_expect DeselectCards index = Nothing
order_expect AllSendCid index = R2
order_expect SendCsd index = R2
order_expect SendCid index = R2
order_expect SendOpCond index = R3
order_expect (SdSendOpCond high) index = R3
order_expect SendRelativeAddress index = R6
order_expect SendIfCond index = R7
order_expect order index = R1 index

abbrev pub expect_or_nothing : Option Order → ℕ → Expect
expect_or_nothing None index = Nothing
expect_or_nothing (Some order) index = order_expect order index

-- the response that a host waits for after an ask
abbrev pub expect_of : Kind → Ask → Expect
expect_of k ask = expect_or_nothing (order_of k ask) ask.index

-- the blocks that an ask addresses, from the address that is sent with it; none where it has no such address
abbrev pub addressed_blocks : Ask → Option ℕ
addressed_blocks ask =
    if (ask.index == 17) || (ask.index == 18) || (ask.index == 24) || (ask.index == 25) then Some ask.count
    else (if (ask.index == 32) || (ask.index == 33) || (ask.index == 35) || (ask.index == 36) then Some 1 else None)
