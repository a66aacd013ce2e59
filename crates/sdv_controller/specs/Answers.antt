-- What a controller answers, by the response that was waited for and what the wire gave.
use Rattle.std.specs.Prelude.{◌≡◌, ℕ, List, take, nat_le, MatchBool}
use Rattle.sdv_frames.specs.Bits.{bits_of}
use Rattle.sdv_frames.specs.Fault.{IsFirstFaultOf}
use Rattle.sdv_frames.specs.Frame.{IsReply, IsReplyFrame, Answers}
use Rattle.sdv_frames.specs.declared.fault.FrameFault.TheVariants.{Length}
use Rattle.sdv_frames.specs.declared.reply.Expect.{Expect}
use Rattle.sdv_frames.specs.declared.reply.Expect.TheVariants.{Nothing}
use Rattle.sdv_card.specs.declared.answer.Answer.{Answer}
use Rattle.sdv_card.specs.declared.answer.Answer.TheVariants as answers
use Rattle.sdv_controller.specs.declared.wire.WireEnd.{WireEnd}
use Rattle.sdv_controller.specs.declared.wire.WireEnd.TheVariants.{Silent, Bytes}

-- the bytes are the frame of a reply that was waited for, or have a first fault
abbrev pub DecodesAs : Expect → List ℕ → Answer → Type 0
DecodesAs expect bytes (answers.Reply reply) = IsReply reply × Answers expect reply × IsReplyFrame reply bytes
DecodesAs expect bytes (answers.Damaged fault) = IsFirstFaultOf expect (bits_of bytes) fault
DecodesAs expect bytes answer = ⊥

-- a response has 17 bytes at most
abbrev pub AnswerIs : Expect → WireEnd → List ℕ → Answer → Type 0
AnswerIs Nothing end response answer = answer ≡ answers.Sent
AnswerIs expect Silent response answer = answer ≡ answers.TimeOut
AnswerIs expect (Bytes count) response answer =
    MatchBool (nat_le count 17) (DecodesAs expect (take count response) answer) (answer ≡ answers.Damaged Length)
