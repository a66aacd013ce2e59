-- The lines that a run prints are lines that an audit reads, as the event and the answer that they were printed for.
use Rattle.std.specs.Prelude.{◌≡◌, ◌≤◌, ◌++◌, length, Ok}
use Rattle.sdv_card.specs.ScriptEvent.{ScriptEvent, SendCommand, ReceiveBlocks, ReceiveRegister, GiveBlocks, AwaitReady, Return, Answered, BlocksIn, RegisterIn, BlocksOut, Waited}
use Rattle.sdv_trace.specs.Trace.{line_feed, line_of}
use Rattle.sdv_audit.specs.declared.line.TraceLine.{TraceLine}
use Rattle.sdv_audit.specs.declared.texts.Said.TheVariants.{Line}
use Rattle.sdv_audit.specs.Reading.{read_line}
use Rattle.sdv_audit.specs.Texts.{read_said}
use Rattle.sdv_audit.specs.Spelling.{IsWord, IsAnswerTo, line_text}
use Rattle.sdv_audit.specs.Standing.{IsToldBy}

-- an event of a run: its command, answer and lengths fit their types, and no response is damaged
abbrev pub IsPrinted : ScriptEvent → Return → Type 0
IsPrinted (SendCommand ask position argument) (Answered answer) =
    (ask.index ≤ 63) × IsWord argument × IsAnswerTo ask.index answer
IsPrinted (ReceiveBlocks lines count) (BlocksIn end blocks) = count ≤ 65535
IsPrinted (ReceiveRegister lines count) (RegisterIn end bytes) = count ≤ 65535
IsPrinted (GiveBlocks lines blocks) (BlocksOut end) = length blocks ≤ 65535
IsPrinted AwaitReady (Waited end) = Unit {0}
IsPrinted event returned = ⊥

-- the line that is printed, and how it is read
pub record LineRead (event : ScriptEvent) (returned : Return) : Type 0 where
  pub line : TraceLine
  pub printed : line_of event returned ≡ line_text line ++ line_feed
  pub read : read_line (line_text line) ≡ Ok line
  pub said : read_said (line_text line) ≡ Ok (Line line)
  pub told : IsToldBy line event returned

abbrev pub PrintedLinesAreRead : Type 0
PrintedLinesAreRead = (event : ScriptEvent) (returned : Return) → IsPrinted event returned → LineRead event returned
