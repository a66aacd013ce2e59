-- The text of a trace: one line for each event, and one for the end of a run.
use Rattle.std.specs.Prelude.{ℕ, List, [], ◌∷◌, ◌++◌, codes, decimal, length}
use Rattle.std.specs.Int.{w32, to_be_bytes}
use Rattle.hex.specs.Hex.{encode_lower}
use Rattle.sdv_frames.specs.declared.reply.Reply.{Reply}
use Rattle.sdv_frames.specs.declared.reply.Reply.TheVariants.{R1, R2, R3, R6, R7}
use Rattle.sdv_frames.specs.declared.command.Command.{Command}
use Rattle.sdv_card.specs.declared.answer.Answer.{Answer}
use Rattle.sdv_card.specs.declared.answer.Answer.TheVariants.{Sent, TimeOut, Damaged}
use Rattle.sdv_card.specs.declared.answer.Answer.TheVariants as answers
use Rattle.sdv_card.specs.declared.answer.DataEnd.{DataEnd}
use Rattle.sdv_card.specs.declared.answer.DataEnd.TheVariants.{Ok, Cut}
use Rattle.sdv_card.specs.declared.answer.WaitEnd.{WaitEnd}
use Rattle.sdv_card.specs.declared.answer.WaitEnd.TheVariants as waits
use Rattle.sdv_trace.specs.declared.end.End.{End}
use Rattle.sdv_trace.specs.declared.end.End.TheVariants.{Done, Fault}
use Rattle.sdv_card.specs.Port.{command_of}
use Rattle.sdv_card.specs.ScriptEvent.{ScriptEvent, SendCommand, ReceiveBlocks, ReceiveRegister, GiveBlocks, AwaitReady, Return, Answered, BlocksIn, RegisterIn, BlocksOut, Waited}

-- the end of a line
abbrev pub line_feed : List ℕ
line_feed = 10 ∷ []

-- a word as eight lower-case hexadecimal digits
abbrev pub word_text : ℕ → List ℕ
word_text word = encode_lower (to_be_bytes w32 word)

abbrev pub reply_text : Reply → List ℕ
reply_text (R1 index status) = codes "R1 " ++ word_text status
reply_text (R2 register) = codes "R2 " ++ encode_lower register
reply_text (R3 ocr) = codes "R3 " ++ word_text ocr
reply_text (R6 word) = codes "R6 " ++ word_text word
reply_text (R7 word) = codes "R7 " ++ word_text word

-- what came of a command; a damaged answer ends a run, and is not printed
abbrev pub answer_text : Answer → List ℕ
answer_text Sent = codes "-"
answer_text TimeOut = codes "timeout"
answer_text (answers.Reply reply) = reply_text reply
answer_text (Damaged fault) = codes "damaged"

-- a command with its argument
abbrev pub command_text : Command → List ℕ
command_text c = codes "CMD" ++ (decimal c.index ++ (codes " " ++ (word_text c.argument ++ codes " ")))

-- the line of an exchange
abbrev pub command_line : Command → Answer → List ℕ
command_line c answer = command_text c ++ (answer_text answer ++ line_feed)

abbrev pub end_text : DataEnd → List ℕ
end_text Ok = codes " ok"
end_text Cut = codes " cut"

-- the line of a phase, by its word and how many blocks or bytes it has
abbrev pub phase_line : List ℕ → ℕ → DataEnd → List ℕ
phase_line word count end = word ++ (codes " " ++ (decimal count ++ (end_text end ++ line_feed)))

abbrev pub wait_text : WaitEnd → List ℕ
wait_text waits.Ok = codes " ok"
wait_text waits.Late = codes " late"

abbrev pub wait_line : WaitEnd → List ℕ
wait_line end = codes "WAIT" ++ (wait_text end ++ line_feed)

-- the line of an event and of what it returned
abbrev pub line_of : ScriptEvent → Return → List ℕ
line_of (SendCommand ask position argument) (Answered answer) = command_line (command_of ask argument) answer
line_of (ReceiveBlocks width count) (BlocksIn end blocks) = phase_line (codes "IN") count end
line_of (ReceiveRegister width count) (RegisterIn end register) = phase_line (codes "REG") count end
line_of (GiveBlocks width blocks) (BlocksOut end) = phase_line (codes "OUT") (length blocks) end
line_of AwaitReady (Waited end) = wait_line end
line_of event returned = []

-- the lines of events, each with what it returned
abbrev pub lines : List (ScriptEvent × Return) → List ℕ
lines [] = []
lines (p ∷ ps) = line_of p.0 p.1 ++ lines ps

-- the last line of a run that ended
abbrev pub end_line : End → List ℕ
end_line Done = codes "done" ++ line_feed
end_line (Fault name) = codes "fault " ++ (name.bytes ++ line_feed)
