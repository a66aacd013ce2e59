-- Each order that a card reads from a frame is that of a line of the command table.
use Rattle.std.proofs.Common.{◌≡◌, ◌⊎◌, ℕ, ◌==◌, ◌&&◌, nat_le, inl, inr, refl, sym, subst, ◌∙◌, Bool, true, false, Option, Some, None, eqb-true, eq-eqb}
use Rattle.sdv_registers.specs.declared.kind.Kind.{Kind}
use Rattle.sdv_registers.specs.declared.kind.Kind.TheVariants.{Sd, Emmc}
use Rattle.sdv_card.specs.declared.event.Aim.{Aim}
use Rattle.sdv_card.specs.declared.event.Aim.TheVariants.{Rca, Plain}
use Rattle.sdv_card.specs.declared.event.Ask.{Ask}
use Rattle.sdv_card.specs.declared.state.Width.TheVariants.{One, Four, Eight}
use Rattle.sdv_card.specs.declared.state.Partition.TheVariants.{User, Boot1, Boot2}
use Rattle.sdv_card.specs.declared.command.Setting.TheVariants.{Lines, Access}
use Rattle.sdv_card.specs.declared.command.Order.{Order}
use Rattle.sdv_card.specs.declared.command.Order.TheVariants.{AllSendCid, AppCommand, Erase, EraseBlockEnd, EraseBlockStart, EraseGroupEnd, EraseGroupStart, GoIdleState, ReadMultipleBlock, ReadSingleBlock, SdSendOpCond, SelectCard, SendCid, SendCsd, SendExtCsd, SendIfCond, SendOpCond, SendRelativeAddress, SendScr, SendStatus, SetBlockCount, SetBlockLength, SetBusWidth, Switch, SetRelativeAddress, StopTransmission, WriteBlock, WriteMultipleBlock}
use Rattle.sdv_card.specs.CommandTable.{order_if, order_of, order_argument}
use Rattle.sdv_card.proofs.Members.{and_left, and_right, both_true}
use Rattle.sdv_behavior.specs.Commands.{is_sent, sd_order_read, emmc_order_read, order_read}
use Rattle.sdv_behavior.specs.LinesRead.{IsLineRead, OrdersAreLines, read_as}
use Rattle.sdv_behavior.specs.RowTaken.{count_of}

abbrev ask_of : (index : ℕ) → Aim → (argument count : ℕ) → Ask
ask_of index aim argument count = record { index = index; aim = aim; argument = argument; count = count }

-- the order is the one, or that of a later line
one : (k : Kind) (preset index argument : ℕ) (order : Order) (is : Bool) (o : Order) (rest : Option Order) →
    (is ≡ true → IsLineRead k preset index argument o) → order_if is o rest ≡ Some order →
    (rest ≡ Some order → IsLineRead k preset index argument order) → IsLineRead k preset index argument order
one k preset index argument order true o rest here e later =
    let f : o ≡ order = cc in subst (λ v. IsLineRead k preset index argument v) f (here refl)
one k preset index argument order false o rest here e later = later e

-- by the index alone
by_index : (k : Kind) (preset index argument : ℕ) (ask : Ask) (asked : Order) → order_of k ask ≡ Some asked →
    (ask.aim ≡ Rca) ⊎ (order_argument asked ask.argument 0 argument ≡ argument) → (index == ask.index) ≡ true →
    IsLineRead k preset index argument (read_as preset asked)
by_index k preset index argument ask asked line sent i =
    record { ask = ask; asked = asked; line = line; same_index = sym (eqb-true index ask.index i); same_argument = sent; read = refl }

-- by the index and the argument
fixed : (k : Kind) (preset index argument : ℕ) (ask : Ask) (asked : Order) (sent : ℕ) → order_of k ask ≡ Some asked →
    order_argument asked ask.argument 0 argument ≡ sent → is_sent index argument ask.index sent ≡ true →
    IsLineRead k preset index argument (read_as preset asked)
fixed k preset index argument ask asked sent line is i =
    by_index k preset index argument ask asked line
    (inr (is ∙ sym (eqb-true argument sent (and_right (index == ask.index) (argument == sent) i))))
    (and_left (index == ask.index) (argument == sent) i)

-- CMD23 has its count as argument
if_true : (is : Bool) (o : Order) (rest : Option Order) → is ≡ true → order_if is o rest ≡ Some o
if_true is o rest e = rw e refl

preset_line : (preset index argument : ℕ) → ((index == 23) && nat_le 1 argument && nat_le argument 65535) ≡ true →
    IsLineRead Emmc preset index argument (SetBlockCount argument)
unfolding order_of
preset_line preset index argument i =
    let low = and_left ((index == 23) && nat_le 1 argument) (nat_le argument 65535) i in
    let most = and_right ((index == 23) && nat_le 1 argument) (nat_le argument 65535) i in
    let is = and_left (index == 23) (nat_le 1 argument) low in
    let least = and_right (index == 23) (nat_le 1 argument) low in
    by_index Emmc preset index argument (ask_of 23 Plain 0 argument) (SetBlockCount argument)
    (if_true ((argument == argument) && nat_le 1 argument && nat_le argument 65535) (SetBlockCount argument) None
    (both_true _ _ (both_true _ _ (eq-eqb argument argument refl) least) most))
    (inr refl) is

sd_lines : (preset index argument : ℕ) (order : Order) → sd_order_read preset index argument ≡ Some order →
    IsLineRead Sd preset index argument order
unfolding order_of
sd_lines preset index argument order e =
    one Sd preset index argument order (is_sent index argument 0 0) GoIdleState _
    (λ i. fixed Sd preset index argument (ask_of 0 Plain 0 0) GoIdleState 0 refl refl i) e (λ e.
    one Sd preset index argument order (is_sent index argument 2 0) AllSendCid _
    (λ i. fixed Sd preset index argument (ask_of 2 Plain 0 0) AllSendCid 0 refl refl i) e (λ e.
    one Sd preset index argument order (is_sent index argument 3 0) SendRelativeAddress _
    (λ i. fixed Sd preset index argument (ask_of 3 Plain 0 0) SendRelativeAddress 0 refl refl i) e (λ e.
    one Sd preset index argument order (is_sent index argument 6 0) (SetBusWidth One) _
    (λ i. fixed Sd preset index argument (ask_of 6 Plain 0 0) (SetBusWidth One) 0 refl refl i) e (λ e.
    one Sd preset index argument order (is_sent index argument 6 2) (SetBusWidth Four) _
    (λ i. fixed Sd preset index argument (ask_of 6 Plain 2 0) (SetBusWidth Four) 2 refl refl i) e (λ e.
    one Sd preset index argument order (index == 7) SelectCard _
    (λ i. by_index Sd preset index argument (ask_of 7 Rca 0 0) SelectCard refl (inl refl) i) e (λ e.
    one Sd preset index argument order (is_sent index argument 8 0x000001aa) SendIfCond _
    (λ i. fixed Sd preset index argument (ask_of 8 Plain 0 0) SendIfCond 0x000001aa refl refl i) e (λ e.
    one Sd preset index argument order (index == 9) SendCsd _
    (λ i. by_index Sd preset index argument (ask_of 9 Rca 0 0) SendCsd refl (inl refl) i) e (λ e.
    one Sd preset index argument order (index == 10) SendCid _
    (λ i. by_index Sd preset index argument (ask_of 10 Rca 0 0) SendCid refl (inl refl) i) e (λ e.
    one Sd preset index argument order (is_sent index argument 12 0) StopTransmission _
    (λ i. fixed Sd preset index argument (ask_of 12 Plain 0 0) StopTransmission 0 refl refl i) e (λ e.
    one Sd preset index argument order (index == 13) SendStatus _
    (λ i. by_index Sd preset index argument (ask_of 13 Rca 0 0) SendStatus refl (inl refl) i) e (λ e.
    one Sd preset index argument order (is_sent index argument 16 512) SetBlockLength _
    (λ i. fixed Sd preset index argument (ask_of 16 Plain 0 0) SetBlockLength 512 refl refl i) e (λ e.
    one Sd preset index argument order (index == 17) ReadSingleBlock _
    (λ i. by_index Sd preset index argument (ask_of 17 Plain 0 1) ReadSingleBlock refl (inr refl) i) e (λ e.
    one Sd preset index argument order (index == 18) (ReadMultipleBlock (count_of preset)) _
    (λ i. by_index Sd preset index argument (ask_of 18 Plain 0 1) (ReadMultipleBlock 1) refl (inr refl) i) e (λ e.
    one Sd preset index argument order (index == 24) WriteBlock _
    (λ i. by_index Sd preset index argument (ask_of 24 Plain 0 1) WriteBlock refl (inr refl) i) e (λ e.
    one Sd preset index argument order (index == 25) (WriteMultipleBlock (count_of preset)) _
    (λ i. by_index Sd preset index argument (ask_of 25 Plain 0 1) (WriteMultipleBlock 1) refl (inr refl) i) e (λ e.
    one Sd preset index argument order (index == 32) EraseBlockStart _
    (λ i. by_index Sd preset index argument (ask_of 32 Plain 0 0) EraseBlockStart refl (inr refl) i) e (λ e.
    one Sd preset index argument order (index == 33) EraseBlockEnd _
    (λ i. by_index Sd preset index argument (ask_of 33 Plain 0 0) EraseBlockEnd refl (inr refl) i) e (λ e.
    one Sd preset index argument order (is_sent index argument 38 0) Erase _
    (λ i. fixed Sd preset index argument (ask_of 38 Plain 0 0) Erase 0 refl refl i) e (λ e.
    one Sd preset index argument order (is_sent index argument 41 0x00ff8000) (SdSendOpCond false) _
    (λ i. fixed Sd preset index argument (ask_of 41 Plain 0x00ff8000 0) (SdSendOpCond false) 0x00ff8000 refl refl i) e (λ e.
    one Sd preset index argument order (is_sent index argument 41 0x40ff8000) (SdSendOpCond true) _
    (λ i. fixed Sd preset index argument (ask_of 41 Plain 0x40ff8000 0) (SdSendOpCond true) 0x40ff8000 refl refl i) e (λ e.
    one Sd preset index argument order (is_sent index argument 51 0) SendScr _
    (λ i. fixed Sd preset index argument (ask_of 51 Plain 0 0) SendScr 0 refl refl i) e (λ e.
    one Sd preset index argument order (index == 55) AppCommand _
    (λ i. by_index Sd preset index argument (ask_of 55 Rca 0 0) AppCommand refl (inl refl) i) e (λ e.
    absurd (cc))))))))))))))))))))))))

emmc_lines : (preset index argument : ℕ) (order : Order) → emmc_order_read preset index argument ≡ Some order →
    IsLineRead Emmc preset index argument order
unfolding order_of
emmc_lines preset index argument order e =
    one Emmc preset index argument order (is_sent index argument 0 0) GoIdleState _
    (λ i. fixed Emmc preset index argument (ask_of 0 Plain 0 0) GoIdleState 0 refl refl i) e (λ e.
    one Emmc preset index argument order (is_sent index argument 1 0x40ff8080) SendOpCond _
    (λ i. fixed Emmc preset index argument (ask_of 1 Plain 0 0) SendOpCond 0x40ff8080 refl refl i) e (λ e.
    one Emmc preset index argument order (is_sent index argument 2 0) AllSendCid _
    (λ i. fixed Emmc preset index argument (ask_of 2 Plain 0 0) AllSendCid 0 refl refl i) e (λ e.
    one Emmc preset index argument order (is_sent index argument 3 0x00010000) SetRelativeAddress _
    (λ i. fixed Emmc preset index argument (ask_of 3 Plain 0 0) SetRelativeAddress 0x00010000 refl refl i) e (λ e.
    one Emmc preset index argument order (is_sent index argument 6 0x03b70000) (Switch (Lines One)) _
    (λ i. fixed Emmc preset index argument (ask_of 6 Plain 0x03b70000 0) (Switch (Lines One)) 0x03b70000 refl refl i) e (λ e.
    one Emmc preset index argument order (is_sent index argument 6 0x03b70100) (Switch (Lines Four)) _
    (λ i. fixed Emmc preset index argument (ask_of 6 Plain 0x03b70100 0) (Switch (Lines Four)) 0x03b70100 refl refl i) e (λ e.
    one Emmc preset index argument order (is_sent index argument 6 0x03b70200) (Switch (Lines Eight)) _
    (λ i. fixed Emmc preset index argument (ask_of 6 Plain 0x03b70200 0) (Switch (Lines Eight)) 0x03b70200 refl refl i) e (λ e.
    one Emmc preset index argument order (is_sent index argument 6 0x03b30000) (Switch (Access User)) _
    (λ i. fixed Emmc preset index argument (ask_of 6 Plain 0x03b30000 0) (Switch (Access User)) 0x03b30000 refl refl i) e (λ e.
    one Emmc preset index argument order (is_sent index argument 6 0x03b30100) (Switch (Access Boot1)) _
    (λ i. fixed Emmc preset index argument (ask_of 6 Plain 0x03b30100 0) (Switch (Access Boot1)) 0x03b30100 refl refl i) e (λ e.
    one Emmc preset index argument order (is_sent index argument 6 0x03b30200) (Switch (Access Boot2)) _
    (λ i. fixed Emmc preset index argument (ask_of 6 Plain 0x03b30200 0) (Switch (Access Boot2)) 0x03b30200 refl refl i) e (λ e.
    one Emmc preset index argument order (index == 7) SelectCard _
    (λ i. by_index Emmc preset index argument (ask_of 7 Rca 0 0) SelectCard refl (inl refl) i) e (λ e.
    one Emmc preset index argument order (is_sent index argument 8 0) SendExtCsd _
    (λ i. fixed Emmc preset index argument (ask_of 8 Plain 0 0) SendExtCsd 0 refl refl i) e (λ e.
    one Emmc preset index argument order (index == 9) SendCsd _
    (λ i. by_index Emmc preset index argument (ask_of 9 Rca 0 0) SendCsd refl (inl refl) i) e (λ e.
    one Emmc preset index argument order (index == 10) SendCid _
    (λ i. by_index Emmc preset index argument (ask_of 10 Rca 0 0) SendCid refl (inl refl) i) e (λ e.
    one Emmc preset index argument order (is_sent index argument 12 0) StopTransmission _
    (λ i. fixed Emmc preset index argument (ask_of 12 Plain 0 0) StopTransmission 0 refl refl i) e (λ e.
    one Emmc preset index argument order (index == 13) SendStatus _
    (λ i. by_index Emmc preset index argument (ask_of 13 Rca 0 0) SendStatus refl (inl refl) i) e (λ e.
    one Emmc preset index argument order (is_sent index argument 16 512) SetBlockLength _
    (λ i. fixed Emmc preset index argument (ask_of 16 Plain 0 0) SetBlockLength 512 refl refl i) e (λ e.
    one Emmc preset index argument order (index == 17) ReadSingleBlock _
    (λ i. by_index Emmc preset index argument (ask_of 17 Plain 0 1) ReadSingleBlock refl (inr refl) i) e (λ e.
    one Emmc preset index argument order (index == 18) (ReadMultipleBlock (count_of preset)) _
    (λ i. by_index Emmc preset index argument (ask_of 18 Plain 0 1) (ReadMultipleBlock 1) refl (inr refl) i) e (λ e.
    one Emmc preset index argument order ((index == 23) && nat_le 1 argument && nat_le argument 65535) (SetBlockCount argument) _
    (λ i. preset_line preset index argument i) e (λ e.
    one Emmc preset index argument order (index == 24) WriteBlock _
    (λ i. by_index Emmc preset index argument (ask_of 24 Plain 0 1) WriteBlock refl (inr refl) i) e (λ e.
    one Emmc preset index argument order (index == 25) (WriteMultipleBlock (count_of preset)) _
    (λ i. by_index Emmc preset index argument (ask_of 25 Plain 0 1) (WriteMultipleBlock 1) refl (inr refl) i) e (λ e.
    one Emmc preset index argument order (index == 35) EraseGroupStart _
    (λ i. by_index Emmc preset index argument (ask_of 35 Plain 0 0) EraseGroupStart refl (inr refl) i) e (λ e.
    one Emmc preset index argument order (index == 36) EraseGroupEnd _
    (λ i. by_index Emmc preset index argument (ask_of 36 Plain 0 0) EraseGroupEnd refl (inr refl) i) e (λ e.
    one Emmc preset index argument order (is_sent index argument 38 0) Erase _
    (λ i. fixed Emmc preset index argument (ask_of 38 Plain 0 0) Erase 0 refl refl i) e (λ e.
    one Emmc preset index argument order (is_sent index argument 38 1) Erase _
    (λ i. fixed Emmc preset index argument (ask_of 38 Plain 1 0) Erase 1 refl refl i) e (λ e.
    one Emmc preset index argument order (is_sent index argument 38 3) Erase _
    (λ i. fixed Emmc preset index argument (ask_of 38 Plain 3 0) Erase 3 refl refl i) e (λ e.
    absurd (cc))))))))))))))))))))))))))))

pub orders_are_lines : OrdersAreLines
unfolding order_read
orders_are_lines Sd preset index argument order e = sd_lines preset index argument order e
orders_are_lines Emmc preset index argument order e = emmc_lines preset index argument order e
