-- The lines of a request: what is written for each call of a port.
use Rattle.std.specs.Prelude.{ℕ, List, [], ◌∷◌, ◌++◌, length, decimal, Option, Some, None}
use Rattle.hex.specs.Hex.{encode_lower}
use Rattle.sdv_frames.specs.declared.reply.Expect.{Expect}
use Rattle.sdv_frames.specs.declared.reply.Expect.TheVariants as expects
use Rattle.sdv_card.specs.Card.{Block}
use Rattle.sdv_card.specs.Port.{Call, Exchange, DataIn, DataInRegister, DataOut, WaitWhileBusy}
use Rattle.sdv_trace.specs.Trace.{command_text}
use Rattle.sdv_lines.specs.declared.words.TheConstants as words
use Rattle.sdv_lines.specs.declared.due.Due.{Due}
use Rattle.sdv_lines.specs.declared.due.Load.{Load}
use Rattle.sdv_lines.specs.declared.due.Load.TheVariants as loads
use Rattle.sdv_lines.specs.Texts.{lines_of}

-- the response that is waited for
abbrev pub expect_text : Expect → List ℕ
expect_text expects.Nothing = words.NOTHING.now
expect_text (expects.R1 index) = words.R1.now
expect_text expects.R2 = words.R2.now
expect_text expects.R3 = words.R3.now
expect_text expects.R6 = words.R6.now
expect_text expects.R7 = words.R7.now

-- a data phase, by what it begins with, how many blocks or bytes it has, and over how many data lines
abbrev pub phase_text : List ℕ → (count lines : ℕ) → List ℕ
phase_text front count lines = front ++ (decimal count ++ (words.LINES.now ++ decimal lines))

-- a line of digits for each block
abbrev pub block_texts : List Block → List (List ℕ)
block_texts [] = []
block_texts (block ∷ blocks) = encode_lower block ∷ block_texts blocks

-- the data phase that a command announces
abbrev pub load_front : Load → List ℕ
load_front loads.BlocksIn = words.IN_FOLLOWS.now
load_front loads.BytesIn = words.IN_FOLLOWS.now
load_front loads.BlocksOut = words.OUT_FOLLOWS.now

abbrev pub load_unit : Load → List ℕ
load_unit loads.BlocksIn = words.LINES.now
load_unit loads.BytesIn = words.BYTES.now
load_unit loads.BlocksOut = words.LINES.now

abbrev pub due_text : Option Due → List ℕ
due_text None = []
due_text (Some due) = load_front due.load ++ (decimal due.count ++ (load_unit due.load ++ decimal due.lines))

-- the texts of a request, which may announce a phase: one line, and a line for each block that is given
abbrev pub request_texts : Option Due → Call → List (List ℕ)
request_texts due (Exchange command expect) = (command_text command ++ (expect_text expect ++ due_text due)) ∷ []
request_texts due (DataIn lines count) = phase_text words.DATA_IN.now count lines ∷ []
request_texts due (DataInRegister lines count) = phase_text words.REGISTER.now count lines ∷ []
request_texts due (DataOut lines blocks) = phase_text words.DATA_OUT.now (length blocks) lines ∷ block_texts blocks
request_texts due WaitWhileBusy = words.WAIT.now ∷ []

abbrev pub request_of : Option Due → Call → List ℕ
request_of due call = lines_of (request_texts due call)
