-- What a simulator gives over its wire shows the answer of its card.
use Rattle.std.proofs.Common.{ℕ, ◌≤◌, inl, inr, refl, sym, subst, List, take, Option, Some, None}
use Rattle.std.specs.Prelude.{IfSome}
use Rattle.sdv_frames.specs.Frame.{IsReply, IsReplyFrame}
use Rattle.sdv_frames.specs.declared.reply.Expect.{Expect}
use Rattle.sdv_frames.specs.declared.reply.Expect.TheVariants as expects
use Rattle.sdv_frames.specs.declared.reply.Reply.{Reply}
use Rattle.sdv_card.specs.declared.answer.Answer.{Answer}
use Rattle.sdv_card.specs.declared.answer.Answer.TheVariants.{Sent, TimeOut, Reply as Replied}
use Rattle.sdv_card.specs.Expected.{AnswerExpected}
use Rattle.sdv_controller.specs.declared.wire.WireEnd.{WireEnd}
use Rattle.sdv_controller.specs.declared.wire.WireEnd.TheVariants.{Silent, Bytes}
use Rattle.sdv_controller.specs.Wire.{ShowsAnswer}
use Rattle.sdv_behavior.specs.SimSteps.{Gives}
use Rattle.sdv_behavior.proofs.Told.{Tells}

-- silence shows that no answer came in time, and that none was waited for
silence : (expect : Expect) (response : List ℕ) (answer : Answer) → AnswerExpected expect answer → Tells None answer → ShowsAnswer expect Silent response answer
silence expects.Nothing response Sent e told = refl
silence (expects.R1 i) response TimeOut e told = refl
silence expects.R2 response TimeOut e told = refl
silence expects.R3 response TimeOut e told = refl
silence expects.R6 response TimeOut e told = refl
silence expects.R7 response TimeOut e told = refl
silence expect response (Replied reply) e (inl f) = absurd (cc)
silence expect response (Replied reply) e (inr f) = absurd (cc)
silence expect response answer e told = absurd e

-- the frame of a reply shows the reply
frame : (expect : Expect) (count : ℕ) (response : List ℕ) (reply : Reply) → AnswerExpected expect (Replied reply) → IsReply reply → count ≤ 17 →
    IsReplyFrame reply (take count response) →
    ShowsAnswer expect (Bytes count) response (Replied reply)
frame expects.Nothing count response reply e is room f = absurd e
frame (expects.R1 i) count response reply e is room f = (reply, refl, record { room = room; is_reply = is; answers = e; frame = f })
frame expects.R2 count response reply e is room f = (reply, refl, record { room = room; is_reply = is; answers = e; frame = f })
frame expects.R3 count response reply e is room f = (reply, refl, record { room = room; is_reply = is; answers = e; frame = f })
frame expects.R6 count response reply e is room f = (reply, refl, record { room = room; is_reply = is; answers = e; frame = f })
frame expects.R7 count response reply e is room f = (reply, refl, record { room = room; is_reply = is; answers = e; frame = f })

pub shows_law : (expect : Expect) (reply : Option Reply) (end : WireEnd) (response : List ℕ) (answer : Answer) → AnswerExpected expect answer →
    Tells reply answer → IfSome reply IsReply →
    Gives reply end response → ShowsAnswer expect end response answer
shows_law expect None end response answer e told is gives = subst (λ v. ShowsAnswer expect v response answer) gives (silence expect response answer e told)
shows_law expect (Some reply) end response answer e told is gives =
    subst (λ v. ShowsAnswer expect v response answer) gives.1
    (subst (λ a. ShowsAnswer expect (Bytes gives.0) response a) told
    (frame expect gives.0 response reply (subst (λ a. AnswerExpected expect a) (sym told) e) is gives.2 gives.3))
