-- What C says of a command or a phase, as the player is told it.
use Rattle.std.specs.Prelude.{◌==◌, ℕ, zero, ℤ, pos, List, length, nat_lt, Bool, true, false, Option, Some, None, if◌then◌else◌}
use Rattle.sdv_frames.specs.declared.fault.FrameFault.TheVariants.{Length}
use Rattle.sdv_frames.specs.declared.reply.Expect.{Expect}
use Rattle.sdv_frames.specs.declared.reply.Expect.TheVariants as expects
use Rattle.sdv_frames.specs.declared.reply.Reply.TheVariants.{R1, R2, R3, R6, R7}
use Rattle.sdv_card.specs.declared.answer.Answer.{Answer}
use Rattle.sdv_card.specs.declared.answer.Answer.TheVariants.{Sent, TimeOut, Reply, Damaged}
use Rattle.sdv_table.specs.Reading.{sending_at}

-- an R2 has bits 127..8 of its register, 15 bytes
abbrev pub register_of : List ℕ → Answer
register_of r2 = if length r2 == 15 then Reply (R2 r2) else Damaged Length

-- a response of the format that the command waits for
abbrev pub response_of : Expect → (word : ℕ) → (r2 : List ℕ) → Answer
response_of expects.Nothing word r2 = Damaged Length
response_of (expects.R1 index) word r2 = Reply (R1 index word)
response_of expects.R2 word r2 = register_of r2
response_of expects.R3 word r2 = Reply (R3 word)
response_of expects.R6 word r2 = Reply (R6 word)
response_of expects.R7 word r2 = Reply (R7 word)

-- 0: it was sent; 1: a response came; 2: none came in time; else it was damaged
abbrev pub answer_by : Expect → (reply word : ℕ) → (r2 : List ℕ) → Answer
answer_by expect reply word r2 =
    if reply == 0 then Sent else (if reply == 1 then response_of expect word r2 else (
    if reply == 2 then TimeOut else Damaged Length))

-- of the command at a point, by its row
abbrev pub answer_of : List ℕ → (point : ℕ) → (reply word : ℕ) → (r2 : List ℕ) → Answer
answer_of table point reply word r2 =
    if nat_lt point 65536 then answer_by (sending_at table point).expect reply word r2 else Damaged Length

-- an EXT_CSD has 512 bytes
abbrev pub came : List ℕ → Option (List ℕ)
came bytes = if length bytes == 512 then Some bytes else None

-- what C takes for true
abbrev pub is_not_zero : ℤ → Bool
is_not_zero (pos zero) = false
is_not_zero number = true
