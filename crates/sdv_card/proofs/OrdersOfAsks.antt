-- What an ask says of the order that it gives: the one walk over the lines of the command tables.
use Rattle.std.proofs.Common.{◌≡◌, ℕ, ◌<◌, ◌≤◌, ◌^◌, ◌==◌, ◌&&◌, ◌||◌, nat_le, refl, ap, subst, sym, ◌∙◌, Bool, true, false, Option, Some, None, if◌then◌else◌, eqb-true, arith, lit<, lit≤}
use Rattle.std.proofs.lemmas.Bool.{leb-true}
use Rattle.sdv_registers.specs.declared.kind.Kind.{Kind}
use Rattle.sdv_registers.specs.declared.kind.Kind.TheVariants.{Sd, Emmc}
use Rattle.sdv_card.specs.declared.event.Aim.{Aim}
use Rattle.sdv_card.specs.declared.event.Aim.TheVariants.{Rca, Plain}
use Rattle.sdv_card.specs.declared.event.Ask.{Ask}
use Rattle.sdv_card.specs.declared.state.Width.{Width}
use Rattle.sdv_card.specs.declared.state.Width.TheVariants.{One, Four, Eight}
use Rattle.sdv_card.specs.declared.state.Partition.TheVariants.{User, Boot1, Boot2}
use Rattle.sdv_card.specs.declared.command.Setting.{Setting}
use Rattle.sdv_card.specs.declared.command.Setting.TheVariants.{Lines, Access}
use Rattle.sdv_card.specs.declared.command.Order.{Order}
use Rattle.sdv_card.specs.declared.command.Order.TheVariants.{GoIdleState, SendOpCond, AllSendCid, SendRelativeAddress, SetRelativeAddress, SetBusWidth, Switch, SelectCard, DeselectCards, SendIfCond, SendExtCsd, SendCsd, SendCid, StopTransmission, SendStatus, SetBlockLength, ReadSingleBlock, ReadMultipleBlock, SetBlockCount, WriteBlock, WriteMultipleBlock, EraseBlockStart, EraseBlockEnd, EraseGroupStart, EraseGroupEnd, Erase, SdSendOpCond, SendScr, AppCommand}
use Rattle.sdv_card.specs.CommandTable.{is_line, is_counted, order_if, sd_order, emmc_order, order_of, addressed_blocks}
use Rattle.sdv_card.proofs.Members.{and_left, and_right}
use Rattle.sdv_card.proofs.RowsOfOrders.{order_announces, order_count, order_index}

-- the command tables of a kind have a line for the order
abbrev pub has_order : Kind → Order → Bool
has_order Sd SendOpCond = false
has_order Sd SetRelativeAddress = false
has_order Sd SendExtCsd = false
has_order Sd (SetBlockCount n) = false
has_order Sd (SetBusWidth Eight) = false
has_order Sd (Switch setting) = false
has_order Sd EraseGroupStart = false
has_order Sd EraseGroupEnd = false
has_order Emmc SendRelativeAddress = false
has_order Emmc (SetBusWidth width) = false
has_order Emmc SendIfCond = false
has_order Emmc EraseBlockStart = false
has_order Emmc EraseBlockEnd = false
has_order Emmc (SdSendOpCond high) = false
has_order Emmc SendScr = false
has_order Emmc AppCommand = false
has_order k order = true

-- the argument of ACMD6, and that of CMD6 of e.MMC: the access mode (3: write a byte), the byte's index and its value
abbrev pub width_argument : Width → ℕ
width_argument One = 0
width_argument width = 2

abbrev pub setting_argument : Setting → ℕ
setting_argument (Lines One) = 0x03b70000
setting_argument (Lines Four) = 0x03b70100
setting_argument (Lines Eight) = 0x03b70200
setting_argument (Access User) = 0x03b30000
setting_argument (Access Boot1) = 0x03b30100
setting_argument (Access Boot2) = 0x03b30200

-- the argument that stands in a line of the order
abbrev pub WritesArgument : Order → ℕ → Type 0
WritesArgument (SdSendOpCond false) argument = argument ≡ 0x00ff8000
WritesArgument (SdSendOpCond true) argument = argument ≡ 0x40ff8000
WritesArgument Erase argument = argument ≤ 3
WritesArgument (SetBusWidth width) argument = argument ≡ width_argument width
WritesArgument (Switch setting) argument = argument ≡ setting_argument setting
WritesArgument order argument = argument ≡ 0

-- a count that a script chooses
pub record IsCount (n count : ℕ) : Type 0 where
  pub same : count ≡ n
  pub some : 0 < n
  pub most : n < 65536

-- the count that stands in a line of the order
abbrev pub WritesCount : Order → ℕ → Type 0
WritesCount ReadSingleBlock count = count ≡ 1
WritesCount WriteBlock count = count ≡ 1
WritesCount (ReadMultipleBlock n) count = IsCount n count
WritesCount (SetBlockCount n) count = IsCount n count
WritesCount (WriteMultipleBlock n) count = IsCount n count
WritesCount order count = count ≡ 0

-- what stands in a line of the order
pub record LineOf (k : Kind) (ask : Ask) (order : Order) : Type 0 where
  pub has : has_order k order ≡ true
  pub index : ask.index ≡ order_index order
  pub argument : WritesArgument order ask.argument
  pub count : WritesCount order ask.count

-- THE WALK

-- the line is the one, or the order is that of a later line
line : (k : Kind) (ask : Ask) (order : Order) (is : Bool) (o : Order) (rest : Option Order) → (is ≡ true → LineOf k ask o) →
    order_if is o rest ≡ Some order → (rest ≡ Some order → LineOf k ask order) → LineOf k ask order
line k ask order true o rest here e later = let f : o ≡ order = cc in subst (λ v. LineOf k ask v) f (here refl)
line k ask order false o rest here e later = later e

-- what the parts of a line are
pub line_index : (ask : Ask) (index : ℕ) (aim : Aim) (argument count : ℕ) → is_line ask index aim argument count ≡ true → ask.index ≡ index
line_index ask index aim argument count i = eqb-true ask.index index (and_left _ _ (and_left _ _ (and_left _ _ i)))

pub line_argument : (ask : Ask) (index : ℕ) (aim : Aim) (argument count : ℕ) → is_line ask index aim argument count ≡ true → ask.argument ≡ argument
line_argument ask index aim argument count i = eqb-true ask.argument argument (and_right _ _ (and_left _ _ i))

line_count : (ask : Ask) (index : ℕ) (aim : Aim) (argument count : ℕ) → is_line ask index aim argument count ≡ true → ask.count ≡ count
line_count ask index aim argument count i = eqb-true ask.count count (and_right _ _ i)

-- a line whose count is written there
written : (k : Kind) (ask : Ask) (index : ℕ) (aim : Aim) (argument count : ℕ) (order : Order) → has_order k order ≡ true → index ≡ order_index order →
    WritesArgument order argument → WritesCount order count → is_line ask index aim argument count ≡ true → LineOf k ask order
written k ask index aim argument count order has own_index own_argument own_count i = record {
  has = has;
  index = line_index ask index aim argument count i ∙ own_index;
  argument = subst (WritesArgument order) (sym (line_argument ask index aim argument count i)) own_argument;
  count = subst (WritesCount order) (sym (line_count ask index aim argument count i)) own_count;
}

below_more : (n : ℕ) → n ≤ 65535 → n < 65536
below_more n h = omega arith

-- a line with any count from 1 to 65,535
counted : (k : Kind) (ask : Ask) (index : ℕ) (order : ℕ → Order) → has_order k (order ask.count) ≡ true → index ≡ order_index (order ask.count) →
    (IsCount ask.count ask.count → WritesCount (order ask.count) ask.count) → WritesArgument (order ask.count) 0 → is_counted ask index ≡ true
    → LineOf k ask (order ask.count)
counted k ask index order has own_index own_count own_argument i =
    let is : is_line ask index Plain 0 ask.count ≡ true = and_left _ _ (and_left _ _ i) in
    record {
      has = has;
      index = line_index ask index Plain 0 ask.count is ∙ own_index;
      argument = subst (WritesArgument (order ask.count)) (sym (line_argument ask index Plain 0 ask.count is)) own_argument;
      count = own_count (record {
        same = refl;
        some = leb-true 1 ask.count (and_right (is_line ask index Plain 0 ask.count) _
            (and_left (is_line ask index Plain 0 ask.count && nat_le 1 ask.count) _ i));
        most = below_more ask.count (leb-true ask.count 65535 (and_right (is_line ask index Plain 0 ask.count && nat_le 1 ask.count) _ i));
      });
    }

sd_line : (ask : Ask) (order : Order) → sd_order ask ≡ Some order → LineOf Sd ask order
sd_line ask order e =
    line Sd ask order (is_line ask 0 Plain 0 0) GoIdleState _ (written Sd ask 0 Plain 0 0 GoIdleState refl refl refl refl) e (λ e.
    line Sd ask order (is_line ask 2 Plain 0 0) AllSendCid _ (written Sd ask 2 Plain 0 0 AllSendCid refl refl refl refl) e (λ e.
    line Sd ask order (is_line ask 3 Plain 0 0) SendRelativeAddress _ (written Sd ask 3 Plain 0 0 SendRelativeAddress refl refl refl refl) e (λ e.
    line Sd ask order (is_line ask 6 Plain 0 0) (SetBusWidth One) _ (written Sd ask 6 Plain 0 0 (SetBusWidth One) refl refl refl refl) e (λ e.
    line Sd ask order (is_line ask 6 Plain 2 0) (SetBusWidth Four) _ (written Sd ask 6 Plain 2 0 (SetBusWidth Four) refl refl refl refl) e (λ e.
    line Sd ask order (is_line ask 7 Rca 0 0) SelectCard _ (written Sd ask 7 Rca 0 0 SelectCard refl refl refl refl) e (λ e.
    line Sd ask order (is_line ask 7 Plain 0 0) DeselectCards _ (written Sd ask 7 Plain 0 0 DeselectCards refl refl refl refl) e (λ e.
    line Sd ask order (is_line ask 8 Plain 0 0) SendIfCond _ (written Sd ask 8 Plain 0 0 SendIfCond refl refl refl refl) e (λ e.
    line Sd ask order (is_line ask 9 Rca 0 0) SendCsd _ (written Sd ask 9 Rca 0 0 SendCsd refl refl refl refl) e (λ e.
    line Sd ask order (is_line ask 10 Rca 0 0) SendCid _ (written Sd ask 10 Rca 0 0 SendCid refl refl refl refl) e (λ e.
    line Sd ask order (is_line ask 12 Plain 0 0) StopTransmission _ (written Sd ask 12 Plain 0 0 StopTransmission refl refl refl refl) e (λ e.
    line Sd ask order (is_line ask 13 Rca 0 0) SendStatus _ (written Sd ask 13 Rca 0 0 SendStatus refl refl refl refl) e (λ e.
    line Sd ask order (is_line ask 16 Plain 0 0) SetBlockLength _ (written Sd ask 16 Plain 0 0 SetBlockLength refl refl refl refl) e (λ e.
    line Sd ask order (is_line ask 17 Plain 0 1) ReadSingleBlock _ (written Sd ask 17 Plain 0 1 ReadSingleBlock refl refl refl refl) e (λ e.
    line Sd ask order (is_counted ask 18) (ReadMultipleBlock ask.count) _ (counted Sd ask 18 ReadMultipleBlock refl refl (λ c. c) refl) e (λ e.
    line Sd ask order (is_line ask 24 Plain 0 1) WriteBlock _ (written Sd ask 24 Plain 0 1 WriteBlock refl refl refl refl) e (λ e.
    line Sd ask order (is_counted ask 25) (WriteMultipleBlock ask.count) _ (counted Sd ask 25 WriteMultipleBlock refl refl (λ c. c) refl) e (λ e.
    line Sd ask order (is_line ask 32 Plain 0 0) EraseBlockStart _ (written Sd ask 32 Plain 0 0 EraseBlockStart refl refl refl refl) e (λ e.
    line Sd ask order (is_line ask 33 Plain 0 0) EraseBlockEnd _ (written Sd ask 33 Plain 0 0 EraseBlockEnd refl refl refl refl) e (λ e.
    line Sd ask order (is_line ask 38 Plain 0 0) Erase _ (written Sd ask 38 Plain 0 0 Erase refl refl (lit≤ tt) refl) e (λ e.
    line Sd ask order (is_line ask 41 Plain 0x00ff8000 0) (SdSendOpCond false) _
    (written Sd ask 41 Plain 0x00ff8000 0 (SdSendOpCond false) refl refl refl refl) e (λ e.
    line Sd ask order (is_line ask 41 Plain 0x40ff8000 0) (SdSendOpCond true) _ (written Sd ask 41 Plain 0x40ff8000 0 (SdSendOpCond true) refl refl refl refl) e
    (λ e.
    line Sd ask order (is_line ask 51 Plain 0 0) SendScr _ (written Sd ask 51 Plain 0 0 SendScr refl refl refl refl) e (λ e.
    line Sd ask order (is_line ask 55 Rca 0 0) AppCommand _ (written Sd ask 55 Rca 0 0 AppCommand refl refl refl refl) e (λ e.
    absurd (cc)))))))))))))))))))))))))

emmc_line : (ask : Ask) (order : Order) → emmc_order ask ≡ Some order → LineOf Emmc ask order
emmc_line ask order e =
    line Emmc ask order (is_line ask 0 Plain 0 0) GoIdleState _ (written Emmc ask 0 Plain 0 0 GoIdleState refl refl refl refl) e (λ e.
    line Emmc ask order (is_line ask 1 Plain 0 0) SendOpCond _ (written Emmc ask 1 Plain 0 0 SendOpCond refl refl refl refl) e (λ e.
    line Emmc ask order (is_line ask 2 Plain 0 0) AllSendCid _ (written Emmc ask 2 Plain 0 0 AllSendCid refl refl refl refl) e (λ e.
    line Emmc ask order (is_line ask 3 Plain 0 0) SetRelativeAddress _ (written Emmc ask 3 Plain 0 0 SetRelativeAddress refl refl refl refl) e (λ e.
    line Emmc ask order (is_line ask 6 Plain 0x03b70000 0) (Switch (Lines One)) _
    (written Emmc ask 6 Plain 0x03b70000 0 (Switch (Lines One)) refl refl refl refl) e (λ e.
    line Emmc ask order (is_line ask 6 Plain 0x03b70100 0) (Switch (Lines Four)) _
    (written Emmc ask 6 Plain 0x03b70100 0 (Switch (Lines Four)) refl refl refl refl) e (λ e.
    line Emmc ask order (is_line ask 6 Plain 0x03b70200 0) (Switch (Lines Eight)) _
    (written Emmc ask 6 Plain 0x03b70200 0 (Switch (Lines Eight)) refl refl refl refl) e (λ e.
    line Emmc ask order (is_line ask 6 Plain 0x03b30000 0) (Switch (Access User)) _
    (written Emmc ask 6 Plain 0x03b30000 0 (Switch (Access User)) refl refl refl refl) e (λ e.
    line Emmc ask order (is_line ask 6 Plain 0x03b30100 0) (Switch (Access Boot1)) _
    (written Emmc ask 6 Plain 0x03b30100 0 (Switch (Access Boot1)) refl refl refl refl) e (λ e.
    line Emmc ask order (is_line ask 6 Plain 0x03b30200 0) (Switch (Access Boot2)) _
    (written Emmc ask 6 Plain 0x03b30200 0 (Switch (Access Boot2)) refl refl refl refl) e (λ e.
    line Emmc ask order (is_line ask 7 Rca 0 0) SelectCard _ (written Emmc ask 7 Rca 0 0 SelectCard refl refl refl refl) e (λ e.
    line Emmc ask order (is_line ask 7 Plain 0 0) DeselectCards _ (written Emmc ask 7 Plain 0 0 DeselectCards refl refl refl refl) e (λ e.
    line Emmc ask order (is_line ask 8 Plain 0 0) SendExtCsd _ (written Emmc ask 8 Plain 0 0 SendExtCsd refl refl refl refl) e (λ e.
    line Emmc ask order (is_line ask 9 Rca 0 0) SendCsd _ (written Emmc ask 9 Rca 0 0 SendCsd refl refl refl refl) e (λ e.
    line Emmc ask order (is_line ask 10 Rca 0 0) SendCid _ (written Emmc ask 10 Rca 0 0 SendCid refl refl refl refl) e (λ e.
    line Emmc ask order (is_line ask 12 Plain 0 0) StopTransmission _ (written Emmc ask 12 Plain 0 0 StopTransmission refl refl refl refl) e (λ e.
    line Emmc ask order (is_line ask 13 Rca 0 0) SendStatus _ (written Emmc ask 13 Rca 0 0 SendStatus refl refl refl refl) e (λ e.
    line Emmc ask order (is_line ask 16 Plain 0 0) SetBlockLength _ (written Emmc ask 16 Plain 0 0 SetBlockLength refl refl refl refl) e (λ e.
    line Emmc ask order (is_line ask 17 Plain 0 1) ReadSingleBlock _ (written Emmc ask 17 Plain 0 1 ReadSingleBlock refl refl refl refl) e (λ e.
    line Emmc ask order (is_counted ask 18) (ReadMultipleBlock ask.count) _ (counted Emmc ask 18 ReadMultipleBlock refl refl (λ c. c) refl) e (λ e.
    line Emmc ask order (is_counted ask 23) (SetBlockCount ask.count) _ (counted Emmc ask 23 SetBlockCount refl refl (λ c. c) refl) e (λ e.
    line Emmc ask order (is_line ask 24 Plain 0 1) WriteBlock _ (written Emmc ask 24 Plain 0 1 WriteBlock refl refl refl refl) e (λ e.
    line Emmc ask order (is_counted ask 25) (WriteMultipleBlock ask.count) _ (counted Emmc ask 25 WriteMultipleBlock refl refl (λ c. c) refl) e (λ e.
    line Emmc ask order (is_line ask 35 Plain 0 0) EraseGroupStart _ (written Emmc ask 35 Plain 0 0 EraseGroupStart refl refl refl refl) e (λ e.
    line Emmc ask order (is_line ask 36 Plain 0 0) EraseGroupEnd _ (written Emmc ask 36 Plain 0 0 EraseGroupEnd refl refl refl refl) e (λ e.
    line Emmc ask order (is_line ask 38 Plain 0 0) Erase _ (written Emmc ask 38 Plain 0 0 Erase refl refl (lit≤ tt) refl) e (λ e.
    line Emmc ask order (is_line ask 38 Plain 1 0) Erase _ (written Emmc ask 38 Plain 1 0 Erase refl refl (lit≤ tt) refl) e (λ e.
    line Emmc ask order (is_line ask 38 Plain 3 0) Erase _ (written Emmc ask 38 Plain 3 0 Erase refl refl (lit≤ tt) refl) e (λ e.
    absurd (cc)))))))))))))))))))))))))))))

-- an ask is a line of the order that it gives
pub line_of : (k : Kind) (ask : Ask) (order : Order) → order_of k ask ≡ Some order → LineOf k ask order
unfolding order_of
line_of Sd ask order e = sd_line ask order e
line_of Emmc ask order e = emmc_line ask order e

-- WHAT FOLLOWS, order by order

small_count : (order : Order) (count : ℕ) → WritesCount order count → order_count order < 65536
small_count (ReadMultipleBlock n) count is = is.most
small_count (SetBlockCount n) count is = is.most
small_count (WriteMultipleBlock n) count is = is.most
small_count order count is = lit< tt

-- the blocks that an index addresses
abbrev pub blocks_at : ℕ → ℕ → Option ℕ
blocks_at index count =
    if (index == 17) || (index == 18) || (index == 24) || (index == 25) then Some count
    else (if (index == 32) || (index == 33) || (index == 35) || (index == 36) then Some 1 else None)

some_one : {x y : ℕ} → Some x ≡ Some y → x ≡ y
some_one e = cc

at_index : (index own count n : ℕ) → index ≡ own → blocks_at own count ≡ Some n → blocks_at index count ≡ Some n
at_index index own count n is e = subst (λ i. blocks_at i count ≡ Some n) (sym is) e

announced_blocks : (order : Order) (index count n : ℕ) → index ≡ order_index order → WritesCount order count → order_announces order ≡ Some n
    → blocks_at index count ≡ Some n
announced_blocks ReadSingleBlock index count n is w e = at_index _ _ _ _ is (ap Some w ∙ e)
announced_blocks WriteBlock index count n is w e = at_index _ _ _ _ is (ap Some w ∙ e)
announced_blocks (ReadMultipleBlock m) index count n is w e = at_index _ _ _ _ is (ap Some w.same ∙ e)
announced_blocks (WriteMultipleBlock m) index count n is w e = at_index _ _ _ _ is (ap Some w.same ∙ e)
announced_blocks order index count n is w e = absurd (let f : None ≡ Some n = e in cc)

some_blocks : (order : Order) (count n : ℕ) → WritesCount order count → order_announces order ≡ Some n → 0 < n
some_blocks ReadSingleBlock count n w e = subst (λ v. 0 < v) (some_one e) (lit< tt)
some_blocks WriteBlock count n w e = subst (λ v. 0 < v) (some_one e) (lit< tt)
some_blocks (ReadMultipleBlock m) count n w e = subst (λ v. 0 < v) (some_one e) w.some
some_blocks (WriteMultipleBlock m) count n w e = subst (λ v. 0 < v) (some_one e) w.some
some_blocks order count n w e = absurd (let f : None ≡ Some n = e in cc)

narrow_width : (width : Width) → width_argument width < 2 ^ 32
narrow_width One = lit< tt
narrow_width width = lit< tt

narrow_setting : (setting : Setting) → setting_argument setting < 2 ^ 32
narrow_setting (Lines One) = lit< tt
narrow_setting (Lines Four) = lit< tt
narrow_setting (Lines Eight) = lit< tt
narrow_setting (Access User) = lit< tt
narrow_setting (Access Boot1) = lit< tt
narrow_setting (Access Boot2) = lit< tt

narrow : (order : Order) (argument : ℕ) → WritesArgument order argument → argument < 2 ^ 32
narrow (SdSendOpCond false) argument is = omega arith
narrow (SdSendOpCond true) argument is = omega arith
narrow Erase argument is = omega arith
narrow (SetBusWidth width) argument is = subst (λ n. n < 2 ^ 32) (sym is) (narrow_width width)
narrow (Switch setting) argument is = subst (λ n. n < 2 ^ 32) (sym is) (narrow_setting setting)
narrow order argument is = subst (λ n. n < 2 ^ 32) (sym is) (lit< tt)

-- the argument that stands in a line has 32 bits
pub argument_is_narrow : (k : Kind) (ask : Ask) (order : Order) → order_of k ask ≡ Some order → ask.argument < 2 ^ 32
argument_is_narrow k ask order e = narrow order ask.argument (line_of k ask order e).argument

-- what an ask says of its order's count and blocks
pub record OfAsk (k : Kind) (ask : Ask) (order : Order) : Type 0 where
  pub count : order_count order < 65536
  pub index : ask.index ≡ order_index order
  pub blocks : (n : ℕ) → order_announces order ≡ Some n → addressed_blocks ask ≡ Some n
  pub some : (n : ℕ) → order_announces order ≡ Some n → 0 < n

pub of_ask : (k : Kind) (ask : Ask) (order : Order) → order_of k ask ≡ Some order → OfAsk k ask order
of_ask k ask order e =
    let line : LineOf k ask order = line_of k ask order e in
    record {
      count = small_count order ask.count line.count;
      index = line.index;
      blocks = λ n announces. announced_blocks order ask.index ask.count n line.index line.count announces;
      some = λ n announces. some_blocks order ask.count n line.count announces;
    }
