-- How the lines of a trace are printed, without the end of line; and that each of them is read as it was meant. The
-- answers and ends are spelled as a run prints them.
use Rattle.std.specs.Prelude.{◌≡◌, ◌<◌, ◌≤◌, ◌^◌, ℕ, List, ◌++◌, codes, decimal, length, Ok}
use Rattle.hex.specs.Hex.{IsBytes}
use Rattle.sdv_frames.specs.declared.command.Command.{Command}
use Rattle.sdv_frames.specs.declared.reply.Reply.{Reply}
use Rattle.sdv_frames.specs.declared.reply.Reply.TheVariants.{R1, R2, R3, R6, R7}
use Rattle.sdv_card.specs.declared.answer.Answer.{Answer}
use Rattle.sdv_card.specs.declared.answer.Answer.TheVariants.{Sent, TimeOut, Reply as Replied, Damaged}
use Rattle.sdv_card.specs.declared.answer.DataEnd.{DataEnd}
use Rattle.sdv_card.specs.Modes.{line_count}
use Rattle.sdv_trace.specs.Trace.{answer_text, command_text, end_text, wait_text, word_text}
use Rattle.sdv_audit.specs.declared.line.TraceLine.{TraceLine}
use Rattle.sdv_audit.specs.declared.line.TraceLine.TheVariants.{Exchange, BlocksIn, RegisterIn, BlocksOut, Wait, Lines, Running, End}
use Rattle.sdv_audit.specs.Reading.{read_line}

-- the line of a phase, by its word and how many blocks or bytes it has
abbrev pub phase_text : List ℕ → ℕ → DataEnd → List ℕ
phase_text word count end = word ++ (codes " " ++ (decimal count ++ end_text end))

abbrev pub line_text : TraceLine → List ℕ
line_text (Exchange command answer) = command_text command ++ answer_text answer
line_text (BlocksIn count end) = phase_text (codes "IN") count end
line_text (RegisterIn count end) = phase_text (codes "REG") count end
line_text (BlocksOut count end) = phase_text (codes "OUT") count end
line_text (Wait end) = codes "WAIT" ++ wait_text end
line_text (Lines width) = codes "LINES " ++ decimal (line_count width)
line_text (Running rca lines) = codes "running"
line_text End = codes "done"

-- a line without its answer
abbrev pub command_told : Command → List ℕ
command_told c = codes "CMD" ++ (decimal c.index ++ (codes " " ++ word_text c.argument))

abbrev pub told_text : TraceLine → List ℕ
told_text (Exchange command answer) = command_told command
told_text line = line_text line

-- WHICH LINES CAN BE PRINTED

abbrev pub IsWord : ℕ → Type 0
IsWord word = word < 2 ^ 32

-- a response to the command with this index
abbrev pub IsReplyTo : ℕ → Reply → Type 0
IsReplyTo index (R1 repeated status) = (repeated ≡ index) × IsWord status
IsReplyTo index (R2 register) = (length register ≡ 15) × IsBytes register
IsReplyTo index (R3 ocr) = IsWord ocr
IsReplyTo index (R6 word) = IsWord word
IsReplyTo index (R7 word) = IsWord word

abbrev pub IsAnswerTo : ℕ → Answer → Type 0
IsAnswerTo index Sent = Unit {0}
IsAnswerTo index TimeOut = Unit {0}
IsAnswerTo index (Replied reply) = IsReplyTo index reply
IsAnswerTo index (Damaged fault) = ⊥

abbrev pub IsLine : TraceLine → Type 0
IsLine (Exchange command answer) = (command.index ≤ 63) × IsWord command.argument × IsAnswerTo command.index answer
IsLine (BlocksIn count end) = count ≤ 65535
IsLine (RegisterIn count end) = count ≤ 65535
IsLine (BlocksOut count end) = count ≤ 65535
IsLine (Running rca lines) = ⊥
IsLine line = Unit {0}

-- what is printed is read again
abbrev pub LinesAreRead : Type 0
LinesAreRead = (line : TraceLine) → IsLine line → read_line (line_text line) ≡ Ok line
