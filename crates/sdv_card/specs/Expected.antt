-- Which answers a host takes as answers to a command: a response of the format that it waits for, or none in time.
-- SD Physical Layer Simplified Specification, section 4.9 (responses); JESD84-B51, section 6.12 (responses).
use Rattle.std.specs.Prelude.{◌==◌, Bool, true, false}
use Rattle.sdv_registers.specs.declared.kind.Kind.{Kind}
use Rattle.sdv_frames.specs.Frame.{Answers}
use Rattle.sdv_frames.specs.declared.reply.Expect.{Expect}
use Rattle.sdv_frames.specs.declared.reply.Expect.TheVariants.{Nothing, R1, R2, R3, R6, R7}
use Rattle.sdv_frames.specs.declared.reply.Reply.TheVariants as replies
use Rattle.sdv_card.specs.declared.answer.Answer.{Answer}
use Rattle.sdv_card.specs.declared.answer.Answer.TheVariants.{Sent, TimeOut, Reply as Replied}
use Rattle.sdv_card.specs.CommandTable.{expect_of}
use Rattle.sdv_card.specs.ScriptEvent.{ScriptEvent, SendCommand, Return, Answered, MayReturn}

abbrev pub AnswerExpected : Expect → Answer → Type 0
AnswerExpected Nothing Sent = Unit {0}
AnswerExpected Nothing answer = ⊥
AnswerExpected expect TimeOut = Unit {0}
AnswerExpected expect (Replied reply) = Answers expect reply
AnswerExpected expect answer = ⊥

-- The same as it is decided: a command without a response is sent, and nothing else comes of it. Any other is answered
-- by a response of its format, an R1 with its own index, or by none in time.
abbrev pub is_of_kind : Expect → Answer → Bool
is_of_kind Nothing Sent = true
is_of_kind Nothing answer = false
is_of_kind expect TimeOut = true
is_of_kind (R1 index) (Replied (replies.R1 repeated status)) = repeated == index
is_of_kind R2 (Replied (replies.R2 register)) = true
is_of_kind R3 (Replied (replies.R3 ocr)) = true
is_of_kind R6 (Replied (replies.R6 word)) = true
is_of_kind R7 (Replied (replies.R7 word)) = true
is_of_kind expect answer = false

-- what a host hears where no response comes
abbrev pub unanswered : Expect → Answer
unanswered Nothing = Sent
unanswered expect = TimeOut

-- what an event returned is what the host waits for
abbrev pub Expected : Kind → ScriptEvent → Return → Type 0
Expected k (SendCommand ask position argument) (Answered answer) = AnswerExpected (expect_of k ask) answer
Expected k event returned = MayReturn event returned
