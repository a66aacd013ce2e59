-- The frame of a host's command is read as the command's order.
use Rattle.std.proofs.Common.{◌≡◌, ℕ, ◌&&◌, nat_le, refl, ap, subst, ◌∙◌, Bool, true, false, Option, Some, None}
use Rattle.sdv_registers.specs.declared.kind.Kind.{Kind}
use Rattle.sdv_registers.specs.declared.kind.Kind.TheVariants.{Sd, Emmc}
use Rattle.sdv_card.specs.declared.event.Aim.{Aim}
use Rattle.sdv_card.specs.declared.event.Aim.TheVariants.{Rca, Plain}
use Rattle.sdv_card.specs.declared.event.Ask.{Ask}
use Rattle.sdv_card.specs.declared.state.Width.TheVariants.{One, Four, Eight}
use Rattle.sdv_card.specs.declared.state.Partition.TheVariants.{User, Boot1, Boot2}
use Rattle.sdv_card.specs.declared.command.Setting.TheVariants.{Lines, Access}
use Rattle.sdv_card.specs.declared.command.Order.{Order}
use Rattle.sdv_card.specs.declared.command.Order.TheVariants.{GoIdleState, SendOpCond, AllSendCid, SendRelativeAddress, SetRelativeAddress, SetBusWidth, Switch, SelectCard, DeselectCards, SendIfCond, SendExtCsd, SendCsd, SendCid, StopTransmission, SendStatus, SetBlockLength, ReadSingleBlock, ReadMultipleBlock, SetBlockCount, WriteBlock, WriteMultipleBlock, EraseBlockStart, EraseBlockEnd, EraseGroupStart, EraseGroupEnd, Erase, SdSendOpCond, SendScr, AppCommand}
use Rattle.sdv_card.specs.CommandTable.{is_line, is_counted, order_if, sd_order, emmc_order, order_of, order_argument}
use Rattle.sdv_card.proofs.Members.{and_left, and_right, both_true}
use Rattle.sdv_behavior.specs.Commands.{sd_order_read, emmc_order_read, order_read}
use Rattle.sdv_behavior.specs.LinesRead.{read_as}
use Rattle.sdv_card.proofs.OrdersOfAsks.{line_index, line_argument}

record Reads (read : ℕ → ℕ → ℕ → Option Order) (ask : Ask) (order : Order) : Type 0 where
  same : (preset rca address : ℕ) → read preset ask.index (order_argument order ask.argument rca address) ≡ Some (read_as preset order)

-- the line is the one, or the order is that of a later line
line : (read : ℕ → ℕ → ℕ → Option Order) (ask : Ask) (order : Order) (is : Bool) (o : Order) (rest : Option Order) → (is ≡ true → Reads read ask o) →
    order_if is o rest ≡ Some order → (rest ≡ Some order → Reads read ask order) → Reads read ask order
line read ask order true o rest here e later = let f : o ≡ order = cc in subst (λ v. Reads read ask v) f (here refl)
line read ask order false o rest here e later = later e

-- by the index and the ask's own argument
at : (read : ℕ → ℕ → ℕ → Option Order) (ask : Ask) (order : Order) (index : ℕ) (aim : Aim) (argument count : ℕ) → is_line ask index aim argument count ≡ true →
    ((preset rca address : ℕ) → read preset index (order_argument order argument rca address) ≡ Some (read_as preset order)) → Reads read ask order
at read ask order index aim argument count i f = record {
  same = λ preset rca address.
      ap (λ n. read preset n (order_argument order ask.argument rca address)) (line_index ask index aim argument count i)
      ∙ ap (λ n. read preset index (order_argument order n rca address)) (line_argument ask index aim argument count i) ∙ f preset rca address;
}

counted : (read : ℕ → ℕ → ℕ → Option Order) (ask : Ask) (order : Order) (index : ℕ) → is_counted ask index ≡ true →
    ((preset rca address : ℕ) → read preset index (order_argument order 0 rca address) ≡ Some (read_as preset order)) → Reads read ask order
counted read ask order index i f = at read ask order index Plain 0 ask.count (and_left _ _ (and_left _ _ i)) f

-- CMD23 has its count as argument
if_true : (is : Bool) (o : Order) (rest : Option Order) → is ≡ true → order_if is o rest ≡ Some o
if_true true o rest e = refl
if_true false o rest e = absurd (let f : false ≡ true = e in cc)

preset_read : (ask : Ask) → is_counted ask 23 ≡ true → Reads emmc_order_read ask (SetBlockCount ask.count)
preset_read ask i = counted emmc_order_read ask (SetBlockCount ask.count) 23 i (λ preset rca address.
    if_true (nat_le 1 ask.count && nat_le ask.count 65535) (SetBlockCount ask.count) None
    (both_true _ _ (and_right (is_line ask 23 Plain 0 ask.count) _ (and_left _ _ i)) (and_right (is_line ask 23 Plain 0 ask.count && nat_le 1 ask.count) _ i)))

sd_line : (ask : Ask) (order : Order) → sd_order ask ≡ Some order → Reads sd_order_read ask order
sd_line ask order e =
    line sd_order_read ask order (is_line ask 0 Plain 0 0) GoIdleState _ (λ i. at sd_order_read ask GoIdleState 0 Plain 0 0 i (λ p r a. refl)) e (λ e.
    line sd_order_read ask order (is_line ask 2 Plain 0 0) AllSendCid _ (λ i. at sd_order_read ask AllSendCid 2 Plain 0 0 i (λ p r a. refl)) e (λ e.
    line sd_order_read ask order (is_line ask 3 Plain 0 0) SendRelativeAddress _ (λ i. at sd_order_read ask SendRelativeAddress 3 Plain 0 0 i (λ p r a. refl)) e
    (λ e.
    line sd_order_read ask order (is_line ask 6 Plain 0 0) (SetBusWidth One) _
    (λ i. at sd_order_read ask (SetBusWidth One) 6 Plain 0 0 i (λ p r a. refl)) e (λ e.
    line sd_order_read ask order (is_line ask 6 Plain 2 0) (SetBusWidth Four) _
    (λ i. at sd_order_read ask (SetBusWidth Four) 6 Plain 2 0 i (λ p r a. refl)) e (λ e.
    line sd_order_read ask order (is_line ask 7 Rca 0 0) SelectCard _ (λ i. at sd_order_read ask SelectCard 7 Rca 0 0 i (λ p r a. refl)) e (λ e.
    line sd_order_read ask order (is_line ask 7 Plain 0 0) DeselectCards _ (λ i. at sd_order_read ask DeselectCards 7 Plain 0 0 i (λ p r a. refl)) e (λ e.
    line sd_order_read ask order (is_line ask 8 Plain 0 0) SendIfCond _ (λ i. at sd_order_read ask SendIfCond 8 Plain 0 0 i (λ p r a. refl)) e (λ e.
    line sd_order_read ask order (is_line ask 9 Rca 0 0) SendCsd _ (λ i. at sd_order_read ask SendCsd 9 Rca 0 0 i (λ p r a. refl)) e (λ e.
    line sd_order_read ask order (is_line ask 10 Rca 0 0) SendCid _ (λ i. at sd_order_read ask SendCid 10 Rca 0 0 i (λ p r a. refl)) e (λ e.
    line sd_order_read ask order (is_line ask 12 Plain 0 0) StopTransmission _ (λ i. at sd_order_read ask StopTransmission 12 Plain 0 0 i (λ p r a. refl)) e
    (λ e.
    line sd_order_read ask order (is_line ask 13 Rca 0 0) SendStatus _ (λ i. at sd_order_read ask SendStatus 13 Rca 0 0 i (λ p r a. refl)) e (λ e.
    line sd_order_read ask order (is_line ask 16 Plain 0 0) SetBlockLength _ (λ i. at sd_order_read ask SetBlockLength 16 Plain 0 0 i (λ p r a. refl)) e (λ e.
    line sd_order_read ask order (is_line ask 17 Plain 0 1) ReadSingleBlock _ (λ i. at sd_order_read ask ReadSingleBlock 17 Plain 0 1 i (λ p r a. refl)) e (λ e.
    line sd_order_read ask order (is_counted ask 18) (ReadMultipleBlock ask.count) _
    (λ i. counted sd_order_read ask (ReadMultipleBlock ask.count) 18 i (λ p r a. refl)) e (λ e.
    line sd_order_read ask order (is_line ask 24 Plain 0 1) WriteBlock _ (λ i. at sd_order_read ask WriteBlock 24 Plain 0 1 i (λ p r a. refl)) e (λ e.
    line sd_order_read ask order (is_counted ask 25) (WriteMultipleBlock ask.count) _
    (λ i. counted sd_order_read ask (WriteMultipleBlock ask.count) 25 i (λ p r a. refl)) e (λ e.
    line sd_order_read ask order (is_line ask 32 Plain 0 0) EraseBlockStart _ (λ i. at sd_order_read ask EraseBlockStart 32 Plain 0 0 i (λ p r a. refl)) e (λ e.
    line sd_order_read ask order (is_line ask 33 Plain 0 0) EraseBlockEnd _ (λ i. at sd_order_read ask EraseBlockEnd 33 Plain 0 0 i (λ p r a. refl)) e (λ e.
    line sd_order_read ask order (is_line ask 38 Plain 0 0) Erase _ (λ i. at sd_order_read ask Erase 38 Plain 0 0 i (λ p r a. refl)) e (λ e.
    line sd_order_read ask order (is_line ask 41 Plain 0x00ff8000 0) (SdSendOpCond false) _
    (λ i. at sd_order_read ask (SdSendOpCond false) 41 Plain 0x00ff8000 0 i (λ p r a. refl)) e (λ e.
    line sd_order_read ask order (is_line ask 41 Plain 0x40ff8000 0) (SdSendOpCond true) _
    (λ i. at sd_order_read ask (SdSendOpCond true) 41 Plain 0x40ff8000 0 i (λ p r a. refl)) e (λ e.
    line sd_order_read ask order (is_line ask 51 Plain 0 0) SendScr _ (λ i. at sd_order_read ask SendScr 51 Plain 0 0 i (λ p r a. refl)) e (λ e.
    line sd_order_read ask order (is_line ask 55 Rca 0 0) AppCommand _ (λ i. at sd_order_read ask AppCommand 55 Rca 0 0 i (λ p r a. refl)) e (λ e.
    absurd (cc)))))))))))))))))))))))))

emmc_line : (ask : Ask) (order : Order) → emmc_order ask ≡ Some order → Reads emmc_order_read ask order
emmc_line ask order e =
    line emmc_order_read ask order (is_line ask 0 Plain 0 0) GoIdleState _ (λ i. at emmc_order_read ask GoIdleState 0 Plain 0 0 i (λ p r a. refl)) e (λ e.
    line emmc_order_read ask order (is_line ask 1 Plain 0 0) SendOpCond _ (λ i. at emmc_order_read ask SendOpCond 1 Plain 0 0 i (λ p r a. refl)) e (λ e.
    line emmc_order_read ask order (is_line ask 2 Plain 0 0) AllSendCid _ (λ i. at emmc_order_read ask AllSendCid 2 Plain 0 0 i (λ p r a. refl)) e (λ e.
    line emmc_order_read ask order (is_line ask 3 Plain 0 0) SetRelativeAddress _
    (λ i. at emmc_order_read ask SetRelativeAddress 3 Plain 0 0 i (λ p r a. refl)) e (λ e.
    line emmc_order_read ask order (is_line ask 6 Plain 0x03b70000 0) (Switch (Lines One)) _
    (λ i. at emmc_order_read ask (Switch (Lines One)) 6 Plain 0x03b70000 0 i (λ p r a. refl)) e (λ e.
    line emmc_order_read ask order (is_line ask 6 Plain 0x03b70100 0) (Switch (Lines Four)) _
    (λ i. at emmc_order_read ask (Switch (Lines Four)) 6 Plain 0x03b70100 0 i (λ p r a. refl)) e (λ e.
    line emmc_order_read ask order (is_line ask 6 Plain 0x03b70200 0) (Switch (Lines Eight)) _
    (λ i. at emmc_order_read ask (Switch (Lines Eight)) 6 Plain 0x03b70200 0 i (λ p r a. refl)) e (λ e.
    line emmc_order_read ask order (is_line ask 6 Plain 0x03b30000 0) (Switch (Access User)) _
    (λ i. at emmc_order_read ask (Switch (Access User)) 6 Plain 0x03b30000 0 i (λ p r a. refl)) e (λ e.
    line emmc_order_read ask order (is_line ask 6 Plain 0x03b30100 0) (Switch (Access Boot1)) _
    (λ i. at emmc_order_read ask (Switch (Access Boot1)) 6 Plain 0x03b30100 0 i (λ p r a. refl)) e (λ e.
    line emmc_order_read ask order (is_line ask 6 Plain 0x03b30200 0) (Switch (Access Boot2)) _
    (λ i. at emmc_order_read ask (Switch (Access Boot2)) 6 Plain 0x03b30200 0 i (λ p r a. refl)) e (λ e.
    line emmc_order_read ask order (is_line ask 7 Rca 0 0) SelectCard _ (λ i. at emmc_order_read ask SelectCard 7 Rca 0 0 i (λ p r a. refl)) e (λ e.
    line emmc_order_read ask order (is_line ask 7 Plain 0 0) DeselectCards _ (λ i. at emmc_order_read ask DeselectCards 7 Plain 0 0 i (λ p r a. refl)) e (λ e.
    line emmc_order_read ask order (is_line ask 8 Plain 0 0) SendExtCsd _ (λ i. at emmc_order_read ask SendExtCsd 8 Plain 0 0 i (λ p r a. refl)) e (λ e.
    line emmc_order_read ask order (is_line ask 9 Rca 0 0) SendCsd _ (λ i. at emmc_order_read ask SendCsd 9 Rca 0 0 i (λ p r a. refl)) e (λ e.
    line emmc_order_read ask order (is_line ask 10 Rca 0 0) SendCid _ (λ i. at emmc_order_read ask SendCid 10 Rca 0 0 i (λ p r a. refl)) e (λ e.
    line emmc_order_read ask order (is_line ask 12 Plain 0 0) StopTransmission _ (λ i. at emmc_order_read ask StopTransmission 12 Plain 0 0 i (λ p r a. refl)) e
    (λ e.
    line emmc_order_read ask order (is_line ask 13 Rca 0 0) SendStatus _ (λ i. at emmc_order_read ask SendStatus 13 Rca 0 0 i (λ p r a. refl)) e (λ e.
    line emmc_order_read ask order (is_line ask 16 Plain 0 0) SetBlockLength _ (λ i. at emmc_order_read ask SetBlockLength 16 Plain 0 0 i (λ p r a. refl)) e
    (λ e.
    line emmc_order_read ask order (is_line ask 17 Plain 0 1) ReadSingleBlock _ (λ i. at emmc_order_read ask ReadSingleBlock 17 Plain 0 1 i (λ p r a. refl)) e
    (λ e.
    line emmc_order_read ask order (is_counted ask 18) (ReadMultipleBlock ask.count) _
    (λ i. counted emmc_order_read ask (ReadMultipleBlock ask.count) 18 i (λ p r a. refl)) e (λ e.
    line emmc_order_read ask order (is_counted ask 23) (SetBlockCount ask.count) _ (λ i. preset_read ask i) e (λ e.
    line emmc_order_read ask order (is_line ask 24 Plain 0 1) WriteBlock _ (λ i. at emmc_order_read ask WriteBlock 24 Plain 0 1 i (λ p r a. refl)) e (λ e.
    line emmc_order_read ask order (is_counted ask 25) (WriteMultipleBlock ask.count) _
    (λ i. counted emmc_order_read ask (WriteMultipleBlock ask.count) 25 i (λ p r a. refl)) e (λ e.
    line emmc_order_read ask order (is_line ask 35 Plain 0 0) EraseGroupStart _ (λ i. at emmc_order_read ask EraseGroupStart 35 Plain 0 0 i (λ p r a. refl)) e
    (λ e.
    line emmc_order_read ask order (is_line ask 36 Plain 0 0) EraseGroupEnd _ (λ i. at emmc_order_read ask EraseGroupEnd 36 Plain 0 0 i (λ p r a. refl)) e (λ e.
    line emmc_order_read ask order (is_line ask 38 Plain 0 0) Erase _ (λ i. at emmc_order_read ask Erase 38 Plain 0 0 i (λ p r a. refl)) e (λ e.
    line emmc_order_read ask order (is_line ask 38 Plain 1 0) Erase _ (λ i. at emmc_order_read ask Erase 38 Plain 1 0 i (λ p r a. refl)) e (λ e.
    line emmc_order_read ask order (is_line ask 38 Plain 3 0) Erase _ (λ i. at emmc_order_read ask Erase 38 Plain 3 0 i (λ p r a. refl)) e (λ e.
    absurd (cc)))))))))))))))))))))))))))))

pub read_law : (k : Kind) (ask : Ask) (order : Order) (preset rca address : ℕ) → order_of k ask ≡ Some order →
    order_read k preset ask.index (order_argument order ask.argument rca address) ≡ Some (read_as preset order)
unfolding order_of order_read
read_law Sd ask order preset rca address e = (sd_line ask order e).same preset rca address
read_law Emmc ask order preset rca address e = (emmc_line ask order e).same preset rca address
