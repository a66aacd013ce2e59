-- What the tables see of the answer to an event.
-- SD Physical Layer Simplified Specification, sections 4.10.1 and 5.1; JESD84-B51, sections 6.13 and 7.1.
use Rattle.std.specs.Prelude.{Bool, ℕ, ◌==◌, ◌&&◌, Option, Some, None, if◌then◌else◌}
use Rattle.sdv_registers.specs.declared.kind.Kind.{Kind}
use Rattle.sdv_registers.specs.Status.{state as state_field, is_switch_error, is_app_cmd}
use Rattle.sdv_registers.specs.Ocr.{is_powered_up, is_block_addressed}
use Rattle.sdv_frames.specs.declared.reply.Reply.{Reply}
use Rattle.sdv_frames.specs.declared.reply.Reply.TheVariants.{R1, R2, R3, R6, R7}
use Rattle.sdv_card.specs.declared.event.Seen.{Seen}
use Rattle.sdv_card.specs.declared.event.Seen.TheVariants.{Sent, TimeOut, Bare, Ocr, Status}
use Rattle.sdv_card.specs.declared.answer.Answer.{Answer}
use Rattle.sdv_card.specs.declared.answer.Answer.TheVariants.{Sent as WasSent, TimeOut as TimedOut, Reply as Replied, Damaged}
use Rattle.sdv_card.specs.ResponseStatus.{in_doubt}
use Rattle.sdv_card.specs.ScriptEvent.{Return, Answered, BlocksIn, RegisterIn, BlocksOut, Waited}
use Rattle.sdv_card.specs.Outcomes.{phase_seen, wait_seen}

-- the application flag counts in a status that answers CMD55
abbrev pub app_of : ℕ → ℕ → Option Bool
app_of index word = if index == 55 then Some (is_app_cmd word) else None

-- bit 7 counts in a status that answers CMD13 while a switch error is pending
abbrev pub switch_of : ℕ → (pending : Bool) → ℕ → Option Bool
switch_of index pending word = if (index == 13) && pending then Some (is_switch_error word) else None

-- pending: the card has a switch error that is not told yet
abbrev pub reply_seen : Kind → (pending : Bool) → Reply → Seen
reply_seen k pending (R1 index word) =
    Status (state_field word) (in_doubt (R1 index word)) (app_of index word) (switch_of index pending word)
reply_seen k pending (R2 bytes) = Bare
reply_seen k pending (R3 word) = Ocr (is_powered_up word)
    (if is_powered_up word then Some (is_block_addressed k word) else None)
reply_seen k pending (R6 word) = Status (state_field word) (in_doubt (R6 word)) None None
reply_seen k pending (R7 word) = Bare

-- a damaged response counts as none
abbrev pub answer_seen : Kind → (pending : Bool) → Answer → Seen
answer_seen k pending WasSent = Sent
answer_seen k pending TimedOut = TimeOut
answer_seen k pending (Replied reply) = reply_seen k pending reply
answer_seen k pending (Damaged fault) = TimeOut

-- what is seen of what an event returned, at a card with or without a pending switch error
abbrev pub seen_of : Kind → (pending : Bool) → Return → Seen
seen_of k pending (Answered answer) = answer_seen k pending answer
seen_of k pending (BlocksIn end blocks) = phase_seen end
seen_of k pending (RegisterIn end bytes) = phase_seen end
seen_of k pending (BlocksOut end) = phase_seen end
seen_of k pending (Waited end) = wait_seen end
