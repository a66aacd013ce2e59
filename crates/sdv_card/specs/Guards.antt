-- What a guard of a script says of what came of an event, and what it makes of what is seen there.
-- SD Physical Layer Simplified Specification, sections 4.10.1 and 5.1; JESD84-B51, sections 6.13 and 7.1.
use Rattle.std.specs.Prelude.{Bool, true, false, ◌%◌, ◌^◌, ◌==◌, Option, Some, None}
use Rattle.sdv_registers.specs.declared.kind.Kind.{Kind}
use Rattle.sdv_registers.specs.Status.{state as state_field, is_ready_for_data, is_app_cmd}
use Rattle.sdv_registers.specs.Ocr.{is_powered_up, is_block_addressed}
use Rattle.sdv_frames.specs.declared.reply.Reply.{Reply}
use Rattle.sdv_frames.specs.declared.reply.Reply.TheVariants.{R1, R3, R6, R7}
use Rattle.sdv_card.specs.declared.guard.Guard.{Guard}
use Rattle.sdv_card.specs.declared.guard.Guard.TheVariants.{Timeout, Answer as SomeAnswer, Clean, Ready as ReadyForData, App, Echo, OcrReady, OcrBlock, State as InState, Ok as WentWell}
use Rattle.sdv_card.specs.declared.event.Seen.{Seen}
use Rattle.sdv_card.specs.declared.event.Seen.TheVariants.{TimeOut, Bare, Ocr, Status, Ok as SeenOk}
use Rattle.sdv_card.specs.declared.command.Order.{Order}
use Rattle.sdv_card.specs.declared.command.Order.TheVariants.{GoIdleState, SendOpCond, AllSendCid, DeselectCards, SendIfCond, SendCsd, SendCid, SdSendOpCond, AppCommand}
use Rattle.sdv_card.specs.declared.answer.Answer.{Answer}
use Rattle.sdv_card.specs.declared.answer.Answer.TheVariants.{Sent as WasSent, TimeOut as TimedOut, Reply as Replied}
use Rattle.sdv_card.specs.declared.answer.DataEnd.TheVariants.{Ok}
use Rattle.sdv_card.specs.declared.answer.WaitEnd.TheVariants.{Ok as Over}
use Rattle.sdv_card.specs.States.{state_number}
use Rattle.sdv_card.specs.ResponseStatus.{is_clean}
use Rattle.sdv_card.specs.ScriptEvent.{Return, Answered, BlocksIn, RegisterIn, BlocksOut, Waited}

-- WHICH GUARDS FIT: `ok` belongs to phases and waits alone

-- the response is a status: an R1 or an R6
abbrev pub has_status : Order → Bool
has_status GoIdleState = false
has_status SendOpCond = false
has_status AllSendCid = false
has_status DeselectCards = false
has_status SendIfCond = false
has_status SendCsd = false
has_status SendCid = false
has_status (SdSendOpCond high) = false
has_status order = true

abbrev pub has_ocr : Order → Bool
has_ocr SendOpCond = true
has_ocr (SdSendOpCond high) = true
has_ocr order = false

abbrev pub guard_fits : Guard → Order → Bool
guard_fits Timeout order = true
guard_fits SomeAnswer order = true
guard_fits Clean order = has_status order
guard_fits ReadyForData order = has_status order
guard_fits (InState s) order = has_status order
guard_fits App AppCommand = true
guard_fits Echo SendIfCond = true
guard_fits OcrReady order = has_ocr order
guard_fits OcrBlock order = has_ocr order
guard_fits guard order = false

-- WHAT A GUARD SAYS of an answer

-- a guard about a response says nothing of other responses
abbrev pub reply_passes : Kind → Guard → Reply → Bool
reply_passes k SomeAnswer reply = true
reply_passes k Clean reply = is_clean k reply
reply_passes k ReadyForData (R1 index word) = is_ready_for_data word
reply_passes k ReadyForData (R6 word) = is_ready_for_data word
reply_passes k App (R1 index word) = is_app_cmd word
reply_passes k Echo (R7 word) = word % 2 ^ 12 == 0x1aa
reply_passes k OcrReady (R3 word) = is_powered_up word
reply_passes k OcrBlock (R3 word) = is_block_addressed k word
reply_passes k (InState s) (R1 index word) = state_field word == state_number s
reply_passes k (InState s) (R6 word) = state_field word == state_number s
reply_passes k guard reply = false

abbrev pub answer_passes : Kind → Guard → Answer → Bool
answer_passes k SomeAnswer WasSent = true
answer_passes k Timeout TimedOut = true
answer_passes k guard (Replied reply) = reply_passes k guard reply
answer_passes k guard answer = false

abbrev pub passes : Kind → Guard → Return → Bool
passes k guard (Answered answer) = answer_passes k guard answer
passes k WentWell (BlocksIn Ok blocks) = true
passes k WentWell (RegisterIn Ok bytes) = true
passes k WentWell (BlocksOut Ok) = true
passes k WentWell (Waited Over) = true
passes k guard returned = false

-- WHAT A GUARD MAKES OF WHAT IS SEEN

-- it holds of every such answer, fails of every one, or is open
pub data Verdict : Type 0 where
  Holds : Verdict
  Fails : Verdict
  Open : Verdict

abbrev pub exactly : Bool → Verdict
exactly true = Holds
exactly false = Fails

-- a part that is not shown is open
abbrev pub exactly_if_shown : Option Bool → Verdict
exactly_if_shown None = Open
exactly_if_shown (Some part) = exactly part

abbrev pub is_set : Option Bool → Bool
is_set None = false
is_set (Some app) = app

abbrev pub verdict : Guard → Seen → Verdict
verdict Timeout TimeOut = Holds
verdict SomeAnswer TimeOut = Fails
verdict SomeAnswer seen = Holds
verdict Clean (Status state true app switch) = Fails
verdict Clean (Status state false app (Some true)) = Fails
verdict Clean (Status state false app switch) = Open
verdict ReadyForData (Status state doubt app switch) = Open
verdict App (Status state doubt app switch) = exactly (is_set app)
verdict Echo Bare = Holds
verdict OcrReady (Ocr ready block) = exactly ready
verdict OcrBlock (Ocr ready block) = exactly_if_shown block
verdict (InState shown) (Status state doubt app switch) = exactly (state == state_number shown)
verdict WentWell SeenOk = Holds
verdict guard seen = Fails

-- a case may be taken if each of its guards may hold, and one guard of each earlier case may fail
abbrev pub may_hold : Verdict → Bool
may_hold Fails = false
may_hold verdict = true

abbrev pub may_fail : Verdict → Bool
may_fail Holds = false
may_fail verdict = true
