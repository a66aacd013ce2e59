-- What a host learns from an order is said by the row by which a card takes it.
use Rattle.std.proofs.Common.{◌≡◌, ℕ, refl, ap, subst, Bool, true, false, List, Option, Some, None}
use Rattle.sdv_frames.specs.declared.reply.Reply.TheVariants.{R1, R2, R3, R6, R7}
use Rattle.sdv_frames.specs.declared.reply.Expect.{Expect}
use Rattle.sdv_frames.specs.declared.reply.Expect.TheVariants.{Nothing, R1 as ExpectR1, R2 as ExpectR2, R3 as ExpectR3, R6 as ExpectR6, R7 as ExpectR7}
use Rattle.sdv_registers.specs.Status.{rca as published_rca}
use Rattle.sdv_card.specs.declared.answer.Answer.{Answer}
use Rattle.sdv_card.specs.declared.answer.Answer.TheVariants.{Sent, TimeOut, Reply as Replied, Damaged}
use Rattle.sdv_card.specs.declared.command.Order.{Order}
use Rattle.sdv_card.specs.declared.command.Order.TheVariants.{GoIdleState, SendOpCond, AllSendCid, SendRelativeAddress, SetRelativeAddress, SetBusWidth, Switch, SelectCard, DeselectCards, SendIfCond, SendExtCsd, SendCsd, SendCid, StopTransmission, SendStatus, SetBlockLength, ReadSingleBlock, ReadMultipleBlock, SetBlockCount, WriteBlock, WriteMultipleBlock, EraseBlockStart, EraseBlockEnd, EraseGroupStart, EraseGroupEnd, Erase, SdSendOpCond, SendScr, AppCommand}
use Rattle.sdv_card.specs.declared.command.Row.{Row}
use Rattle.sdv_card.specs.declared.command.Row.TheVariants.{Cmd0, Cmd1, Cmd2, Cmd3Sd, Cmd3Emmc, Cmd6, Cmd7Addressed, Cmd7NotAddressed, Cmd8Sd, Cmd8Emmc, Cmd9, Cmd10, Cmd12, Cmd13, Cmd16, Cmd17, Cmd18, Cmd23, Cmd24, Cmd25, Cmd32, Cmd33, Cmd35, Cmd36, Cmd38, Cmd55, Acmd6, Acmd13, Acmd41, Acmd51}
use Rattle.sdv_card.specs.declared.command.TakenAs.TheVariants.{Ignored, By}
use Rattle.sdv_card.specs.Takes.{taken_as_of}
use Rattle.sdv_card.specs.CommandTable.{order_expect}
use Rattle.sdv_card.specs.Responses.{row_index}
use Rattle.sdv_card.specs.Exchange.{unaddressed_answer}
use Rattle.sdv_card.specs.Expected.{AnswerExpected}
use Rattle.sdv_card.specs.Host.{rca_known, csd_known, register_length_by}

-- the relative address that the host holds after a row
abbrev pub row_rca : Row → Answer → ℕ → ℕ
row_rca Cmd0 answer rca = 0
row_rca Cmd3Sd (Replied (R6 word)) rca = published_rca word
row_rca Cmd3Emmc answer rca = 1
row_rca row answer rca = rca

-- the blocks that a row announces, the count that it carries, and the length of the register that it asks for
abbrev pub row_announces : Row → Option ℕ
row_announces Cmd17 = Some 1
row_announces (Cmd18 n) = Some n
row_announces Cmd24 = Some 1
row_announces (Cmd25 n) = Some n
row_announces row = None

abbrev pub order_announces : Order → Option ℕ
order_announces ReadSingleBlock = Some 1
order_announces (ReadMultipleBlock n) = Some n
order_announces WriteBlock = Some 1
order_announces (WriteMultipleBlock n) = Some n
order_announces order = None

abbrev pub row_count : Row → ℕ
row_count (Cmd18 n) = n
row_count (Cmd23 n) = n
row_count (Cmd25 n) = n
row_count row = 0

abbrev pub order_count : Order → ℕ
order_count (ReadMultipleBlock n) = n
order_count (SetBlockCount n) = n
order_count (WriteMultipleBlock n) = n
order_count order = 0

-- the index of an order's command
abbrev pub order_index : Order → ℕ
order_index GoIdleState = 0
order_index SendOpCond = 1
order_index AllSendCid = 2
order_index SendRelativeAddress = 3
order_index SetRelativeAddress = 3
order_index (SetBusWidth width) = 6
order_index (Switch setting) = 6
order_index SelectCard = 7
order_index DeselectCards = 7
order_index SendIfCond = 8
order_index SendExtCsd = 8
order_index SendCsd = 9
order_index SendCid = 10
order_index StopTransmission = 12
order_index SendStatus = 13
order_index SetBlockLength = 16
order_index ReadSingleBlock = 17
order_index (ReadMultipleBlock n) = 18
order_index (SetBlockCount n) = 23
order_index WriteBlock = 24
order_index (WriteMultipleBlock n) = 25
order_index EraseBlockStart = 32
order_index EraseBlockEnd = 33
order_index EraseGroupStart = 35
order_index EraseGroupEnd = 36
order_index Erase = 38
order_index (SdSendOpCond high) = 41
order_index SendScr = 51
order_index AppCommand = 55

abbrev pub row_register : Row → ℕ → ℕ
row_register Cmd8Emmc before = 512
row_register Cmd13 before = 64
row_register Acmd13 before = 64
row_register Acmd51 before = 8
row_register row before = before

-- the register that a row shows
abbrev pub row_csd : Row → Answer → Option (List ℕ) → Option (List ℕ)
row_csd Cmd9 (Replied (R2 bytes)) csd = Some bytes
row_csd row answer csd = csd

-- the commands on whose answers a guard's verdict rests: CMD55, and CMD8 of SD
abbrev pub is_app_command : Order → Bool
is_app_command AppCommand = true
is_app_command order = false

abbrev pub is_row_55 : Row → Bool
is_row_55 Cmd55 = true
is_row_55 row = false

abbrev pub is_if_cond : Order → Bool
is_if_cond SendIfCond = true
is_if_cond order = false

abbrev pub is_row_8 : Row → Bool
is_row_8 Cmd8Sd = true
is_row_8 row = false

-- the parts of what an order says that do not depend on an answer
pub record Parts : Type 0 where
  pub announces : Option ℕ
  pub count : ℕ
  pub register : ℕ → ℕ
  pub app : Bool
  pub if_cond : Bool

abbrev pub order_parts : Order → Parts
order_parts order = record {
  announces = order_announces order;
  count = order_count order;
  register = λ before. register_length_by order before;
  app = is_app_command order;
  if_cond = is_if_cond order;
}

abbrev pub row_parts : Row → Parts
row_parts row = record {
  announces = row_announces row;
  count = row_count row;
  register = λ before. row_register row before;
  app = is_row_55 row;
  if_cond = is_row_8 row;
}

-- the response to a row
abbrev pub row_expect : Row → Expect
row_expect Cmd0 = Nothing
row_expect Cmd1 = ExpectR3
row_expect Cmd2 = ExpectR2
row_expect Cmd3Sd = ExpectR6
row_expect Cmd8Sd = ExpectR7
row_expect Cmd9 = ExpectR2
row_expect Cmd10 = ExpectR2
row_expect (Acmd41 high) = ExpectR3
row_expect row = ExpectR1 (row_index row)

-- the response that a host waits for is that to the row, or what comes where no card is addressed
abbrev pub WaitsFor : Order → Row → Type 0
WaitsFor order Cmd7NotAddressed = AnswerExpected (order_expect order (order_index order)) (unaddressed_answer order)
WaitsFor order row = order_expect order (order_index order) ≡ row_expect row

-- the order says what the row says
pub record Says (order : Order) (row : Row) : Type 0 where
  pub rca : (answer : Answer) (n : ℕ) → rca_known order answer n ≡ row_rca row answer n
  pub csd : (answer : Answer) (csd : Option (List ℕ)) → csd_known order answer csd ≡ row_csd row answer csd
  pub parts : order_parts order ≡ row_parts row
  pub waits : WaitsFor order row

pub same_announces : {order : Order} {row : Row} → Says order row → order_announces order ≡ row_announces row
same_announces s = ap (λ p. p.announces) s.parts

pub same_count : {order : Order} {row : Row} → Says order row → order_count order ≡ row_count row
same_count s = ap (λ p. p.count) s.parts

pub same_register : {order : Order} {row : Row} → Says order row → (before : ℕ) → register_length_by order before ≡ row_register row before
same_register s before = ap (λ p. p.register before) s.parts

pub same_app : {order : Order} {row : Row} → Says order row → is_app_command order ≡ is_row_55 row
same_app s = ap (λ p. p.app) s.parts

pub same_if_cond : {order : Order} {row : Row} → Says order row → is_if_cond order ≡ is_row_8 row
same_if_cond s = ap (λ p. p.if_cond) s.parts

published : (answer : Answer) (n : ℕ) → rca_known SendRelativeAddress answer n ≡ row_rca Cmd3Sd answer n
published Sent n = refl
published TimeOut n = refl
published (Damaged fault) n = refl
published (Replied (R1 index word)) n = refl
published (Replied (R2 bytes)) n = refl
published (Replied (R3 word)) n = refl
published (Replied (R6 word)) n = refl
published (Replied (R7 word)) n = refl

shown : (answer : Answer) (csd : Option (List ℕ)) → csd_known SendCsd answer csd ≡ row_csd Cmd9 answer csd
shown Sent csd = refl
shown TimeOut csd = refl
shown (Damaged fault) csd = refl
shown (Replied (R1 index word)) csd = refl
shown (Replied (R2 bytes)) csd = refl
shown (Replied (R3 word)) csd = refl
shown (Replied (R6 word)) csd = refl
shown (Replied (R7 word)) csd = refl

at : (r row : Row) (order : Order) → By r ≡ By row →
    ((answer : Answer) (n : ℕ) → rca_known order answer n ≡ row_rca r answer n) →
    ((answer : Answer) (csd : Option (List ℕ)) → csd_known order answer csd ≡ row_csd r answer csd) →
    order_parts order ≡ row_parts r → WaitsFor order r → Says order row
at r row order e rca csd parts waits =
    let f : r ≡ row = cc in subst (λ v. Says order v) f (record { rca = rca; csd = csd; parts = parts; waits = waits })

-- an order and the row by which a card takes it say the same
pub says : (order : Order) (app matched : Bool) (row : Row) → taken_as_of order app matched ≡ By row → Says order row
says GoIdleState app matched row e = at Cmd0 row GoIdleState e (λ a n. refl) (λ a v. refl) refl refl
says AppCommand app true row e = at Cmd55 row AppCommand e (λ a n. refl) (λ a v. refl) refl refl
says SendStatus true matched row e = at Acmd13 row SendStatus e (λ a n. refl) (λ a v. refl) refl refl
says (SdSendOpCond high) true matched row e = at (Acmd41 high) row (SdSendOpCond high) e (λ a n. refl) (λ a v. refl) refl refl
says SendScr true matched row e = at Acmd51 row SendScr e (λ a n. refl) (λ a v. refl) refl refl
says (SetBusWidth width) true matched row e = at (Acmd6 width) row (SetBusWidth width) e (λ a n. refl) (λ a v. refl) refl refl
says (Switch setting) false matched row e = at (Cmd6 setting) row (Switch setting) e (λ a n. refl) (λ a v. refl) refl refl
says SendOpCond false matched row e = at Cmd1 row SendOpCond e (λ a n. refl) (λ a v. refl) refl refl
says AllSendCid false matched row e = at Cmd2 row AllSendCid e (λ a n. refl) (λ a v. refl) refl refl
says SendRelativeAddress false matched row e = at Cmd3Sd row SendRelativeAddress e published (λ a v. refl) refl refl
says SetRelativeAddress false matched row e = at Cmd3Emmc row SetRelativeAddress e (λ a n. refl) (λ a v. refl) refl refl
says SelectCard false true row e = at Cmd7Addressed row SelectCard e (λ a n. refl) (λ a v. refl) refl refl
says SelectCard false false row e = at Cmd7NotAddressed row SelectCard e (λ a n. refl) (λ a v. refl) refl tt
says DeselectCards false matched row e = at Cmd7NotAddressed row DeselectCards e (λ a n. refl) (λ a v. refl) refl tt
says SendIfCond false matched row e = at Cmd8Sd row SendIfCond e (λ a n. refl) (λ a v. refl) refl refl
says SendExtCsd false matched row e = at Cmd8Emmc row SendExtCsd e (λ a n. refl) (λ a v. refl) refl refl
says SendCsd false true row e = at Cmd9 row SendCsd e (λ a n. refl) shown refl refl
says SendCid false true row e = at Cmd10 row SendCid e (λ a n. refl) (λ a v. refl) refl refl
says StopTransmission false matched row e = at Cmd12 row StopTransmission e (λ a n. refl) (λ a v. refl) refl refl
says SendStatus false true row e = at Cmd13 row SendStatus e (λ a n. refl) (λ a v. refl) refl refl
says SetBlockLength false matched row e = at Cmd16 row SetBlockLength e (λ a n. refl) (λ a v. refl) refl refl
says ReadSingleBlock false matched row e = at Cmd17 row ReadSingleBlock e (λ a n. refl) (λ a v. refl) refl refl
says (ReadMultipleBlock count) false matched row e = at (Cmd18 count) row (ReadMultipleBlock count) e (λ a n. refl) (λ a v. refl) refl refl
says (SetBlockCount count) false matched row e = at (Cmd23 count) row (SetBlockCount count) e (λ a n. refl) (λ a v. refl) refl refl
says WriteBlock false matched row e = at Cmd24 row WriteBlock e (λ a n. refl) (λ a v. refl) refl refl
says (WriteMultipleBlock count) false matched row e = at (Cmd25 count) row (WriteMultipleBlock count) e (λ a n. refl) (λ a v. refl) refl refl
says EraseBlockStart false matched row e = at Cmd32 row EraseBlockStart e (λ a n. refl) (λ a v. refl) refl refl
says EraseBlockEnd false matched row e = at Cmd33 row EraseBlockEnd e (λ a n. refl) (λ a v. refl) refl refl
says EraseGroupStart false matched row e = at Cmd35 row EraseGroupStart e (λ a n. refl) (λ a v. refl) refl refl
says EraseGroupEnd false matched row e = at Cmd36 row EraseGroupEnd e (λ a n. refl) (λ a v. refl) refl refl
says Erase false matched row e = at Cmd38 row Erase e (λ a n. refl) (λ a v. refl) refl refl
says AppCommand app false row e = absurd (cc)
says SendCsd false false row e = absurd (cc)
says SendCid false false row e = absurd (cc)
says SendStatus false false row e = absurd (cc)
says (SdSendOpCond high) false matched row e = absurd (cc)
says SendScr false matched row e = absurd (cc)
says (SetBusWidth width) false matched row e = absurd (cc)
says order true matched row e = absurd (cc)

-- the host holds the address that it held after an order that a card may ignore
pub ignored_rca : (order : Order) (app matched : Bool) (n : ℕ) → taken_as_of order app matched ≡ Ignored → rca_known order TimeOut n ≡ n
ignored_rca GoIdleState app matched n e = absurd (cc)
ignored_rca SetRelativeAddress true matched n e = absurd (cc)
ignored_rca SetRelativeAddress false matched n e = absurd (cc)
ignored_rca order app matched n e = refl

-- a host waits in vain for a response to an order that a card may ignore
pub ignored_waits : (order : Order) (app matched : Bool) (index : ℕ) → taken_as_of order app matched ≡ Ignored
    → AnswerExpected (order_expect order index) TimeOut
ignored_waits GoIdleState app matched index e = absurd (cc)
ignored_waits DeselectCards true matched index e = absurd (cc)
ignored_waits DeselectCards false matched index e = absurd (cc)
ignored_waits order app matched index e = tt
