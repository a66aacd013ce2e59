-- The lines of an answer: what they say that a call returned.
use Rattle.std.specs.Prelude.{◌≡◌, ◌⊎◌, ◌<◌, ◌≤◌, ◌^◌, ℕ, List, [], ◌∷◌, ◌++◌, length}
use Rattle.std.specs.Int.{w32, to_be_bytes}
use Rattle.std.specs.List.{AllByRecursion}
use Rattle.sdv_frames.specs.declared.reply.Expect.{Expect}
use Rattle.sdv_frames.specs.declared.reply.Expect.TheVariants as expects
use Rattle.sdv_frames.specs.declared.reply.Reply.{Reply}
use Rattle.sdv_frames.specs.declared.reply.Reply.TheVariants.{R1, R2, R3, R6, R7}
use Rattle.sdv_card.specs.declared.answer.Answer.{Answer}
use Rattle.sdv_card.specs.declared.answer.Answer.TheVariants as answers
use Rattle.sdv_card.specs.declared.answer.DataEnd.{DataEnd}
use Rattle.sdv_card.specs.declared.answer.DataEnd.TheVariants as ends
use Rattle.sdv_card.specs.declared.answer.WaitEnd.{WaitEnd}
use Rattle.sdv_card.specs.declared.answer.WaitEnd.TheVariants as waits
use Rattle.sdv_card.specs.Port.{Call, Exchange, DataIn, DataInRegister, DataOut, WaitWhileBusy}
use Rattle.sdv_card.specs.ScriptEvent.{Return, Answered, BlocksIn, RegisterIn, BlocksOut, Waited}
use Rattle.sdv_lines.specs.declared.words.TheConstants as words
use Rattle.sdv_lines.specs.Texts.{AreDigits, AreBlocks, IsLine, trims}

-- a text is the name of a format, and then the digits of these bytes
pub record IsReplyOf (format bytes text : List ℕ) : Type 0 where
  pub digits : List ℕ
  pub split : text ≡ format ++ digits
  pub are : AreDigits digits bytes

-- of a word of 32 bits: eight digits
pub record IsWordOf (format : List ℕ) (word : ℕ) (text : List ℕ) : Type 0 where
  pub reply : IsReplyOf format (to_be_bytes w32 word) text
  pub fits : word < 2 ^ 32

-- a text says that the response that was waited for came
abbrev pub TellsReply : Expect → Reply → List ℕ → Type 0
TellsReply (expects.R1 wanted) (R1 index status) text = (index ≡ wanted) × IsWordOf words.R1_CAME.now status text
TellsReply expects.R2 (R2 register) text = (length register ≡ 15) × IsReplyOf words.R2_CAME.now register text
TellsReply expects.R3 (R3 ocr) text = IsWordOf words.R3_CAME.now ocr text
TellsReply expects.R6 (R6 word) text = IsWordOf words.R6_CAME.now word text
TellsReply expects.R7 (R7 word) text = IsWordOf words.R7_CAME.now word text
TellsReply expect reply text = ⊥

-- no response came that says anything: none in time, or one with wrong bits, which is as good as lost
abbrev pub SaysLost : List ℕ → Type 0
SaysLost text = (text ≡ words.TIMEOUT.now) ⊎ (text ≡ words.DAMAGED.now)

-- A text says what came of a command. A host takes a damaged response for none: no text tells it more.
abbrev pub TellsAnswer : Expect → Answer → List ℕ → Type 0
TellsAnswer expects.Nothing answers.Sent text = text ≡ words.NOTHING.now
TellsAnswer expects.Nothing answer text = ⊥
TellsAnswer expect answers.Sent text = ⊥
TellsAnswer expect answers.TimeOut text = SaysLost text
TellsAnswer expect (answers.Damaged fault) text = ⊥
TellsAnswer expect (answers.Reply reply) text = TellsReply expect reply text

abbrev pub data_end_text : DataEnd → List ℕ
data_end_text ends.Ok = words.OK.now
data_end_text ends.Cut = words.CUT.now

abbrev pub wait_end_text : WaitEnd → List ℕ
wait_end_text waits.Ok = words.OK.now
wait_end_text waits.Late = words.LATE.now

-- The texts of an answer say that a call returned so. A register has 512 bytes at most.
abbrev pub IsAnswer : Call → List (List ℕ) → Return → Type 0
IsAnswer (Exchange command expect) (text ∷ []) (Answered answer) = TellsAnswer expect answer text
IsAnswer (DataIn lines count) (text ∷ texts) (BlocksIn ends.Ok blocks) =
    (text ≡ words.OK.now) × (length blocks ≡ count) × AreBlocks texts blocks
IsAnswer (DataIn lines count) (text ∷ []) (BlocksIn ends.Cut blocks) = (text ≡ words.CUT.now) × (length blocks ≡ count)
IsAnswer (DataInRegister lines count) (text ∷ digits ∷ []) (RegisterIn ends.Ok bytes) =
    (text ≡ words.OK.now) × (length bytes ≡ count) × (count ≤ 512) × AreDigits digits bytes
IsAnswer (DataInRegister lines count) (text ∷ []) (RegisterIn ends.Cut bytes) =
    (text ≡ words.CUT.now) × (length bytes ≡ count)
IsAnswer (DataOut lines blocks) (text ∷ []) (BlocksOut end) = text ≡ data_end_text end
IsAnswer WaitWhileBusy (text ∷ []) (Waited end) = text ≡ wait_end_text end
IsAnswer call texts returned = ⊥

-- texts are an answer to a call; blanks at their ends say nothing
pub record Answers (call : Call) (texts : List (List ℕ)) (returned : Return) : Type 0 where
  pub lines : AllByRecursion IsLine texts
  pub says : IsAnswer call (trims texts) returned
