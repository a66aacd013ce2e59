-- A controller over a wire that keeps the tables keeps them too.
use Rattle.std.specs.Prelude.{◌≡◌, ℕ, List, take, Option, nat_le, MatchBool, true}
use Rattle.std.proofs.Common.{sym, ◌∙◌, ap, subst}
use borrow.Author.Tests.{le-leb}
use Rattle.sdv_frames.specs.Bits.{bits_of}
use Rattle.sdv_frames.proofs.ReplyLaws.{one_reply, no_reply_of}
use Rattle.sdv_frames.specs.declared.fault.FrameFault.TheVariants.{Length}
use Rattle.sdv_card.specs.CommandTable.{expect_of}
use Rattle.sdv_registers.specs.declared.kind.Kind.{Kind}
use Rattle.sdv_frames.specs.declared.reply.Expect.{Expect}
use Rattle.sdv_frames.specs.declared.reply.Expect.TheVariants as expects
use Rattle.sdv_frames.specs.declared.reply.Reply.{Reply}
use Rattle.sdv_frames.specs.Frame.{IsReply, IsReplyFrame, Answers}
use Rattle.sdv_card.specs.declared.answer.Answer.{Answer}
use Rattle.sdv_card.specs.declared.answer.Answer.TheVariants as answers
use Rattle.sdv_card.specs.declared.event.Ask.{Ask}
use Rattle.sdv_card.specs.Card.{Card}
use Rattle.sdv_card.specs.Port.{Kept, KeepsTables, command_of}
use Rattle.sdv_card.proofs.PortLaws.{keeps_by_part}
use Rattle.sdv_card.specs.ScriptEvent.{SendCommand, ReceiveBlocks, ReceiveRegister, GiveBlocks, AwaitReady, Answered, BlocksIn, RegisterIn, BlocksOut, Waited}
use Rattle.sdv_controller.specs.declared.wire.WireEnd.{WireEnd}
use Rattle.sdv_controller.specs.declared.wire.WireEnd.TheVariants as ends
use Rattle.sdv_controller.specs.Wire.{WireCall, WireReturn, WireKeepsTables, KeepsAt, ShowsAnswer, Carries}
use Rattle.sdv_controller.specs.Controlled.{ControllerSteps, Exchanged}
use Rattle.sdv_controller.specs.Answers.{AnswerIs, DecodesAs}

-- bytes that carry a reply decode as that reply
decoded : (expect : Expect) (bytes : List ℕ) (told : Answer) (reply : Reply) → DecodesAs expect bytes told →
    IsReply reply → Answers expect reply → IsReplyFrame reply bytes → answers.Reply reply ≡ told
decoded expect bytes answers.Sent reply d h a f = absurd d
decoded expect bytes answers.TimeOut reply d h a f = absurd d
decoded expect bytes (answers.Reply told) reply d h a f =
    ap answers.Reply (one_reply expect reply told a d.1 (bits_of bytes) h d.0 f d.2)
decoded expect bytes (answers.Damaged fault) reply d h a f =
    absurd (no_reply_of expect reply (bits_of bytes) fault d h a f)

carried : (expect : Expect) (count : ℕ) (response : List ℕ) (told shown : Answer) →
    MatchBool (nat_le count 17) (DecodesAs expect (take count response) told) (told ≡ answers.Damaged Length) →
    (reply : Reply) × (shown ≡ answers.Reply reply) × Carries expect count response reply → shown ≡ told
carried expect count response told shown a s =
    let fits : nat_le count 17 ≡ true = le-leb count 17 s.2.room in
    let d : DecodesAs expect (take count response) told =
    subst (λ b. MatchBool b (DecodesAs expect (take count response) told) (told ≡ answers.Damaged Length)) fits a in
    s.1 ∙ decoded expect (take count response) told s.0 d s.2.is_reply s.2.answers s.2.frame

-- the answer of a controller is the one that its wire shows
pub one_answer : (expect : Expect) (end : WireEnd) (response : List ℕ) (told shown : Answer) →
    AnswerIs expect end response told → ShowsAnswer expect end response shown → shown ≡ told
one_answer expects.Nothing end response told shown a s = s ∙ sym a
one_answer (expects.R1 index) ends.Silent response told shown a s = s ∙ sym a
one_answer (expects.R1 index) (ends.Bytes count) response told shown a s =
    carried (expects.R1 index) count response told shown a s
one_answer expects.R2 ends.Silent response told shown a s = s ∙ sym a
one_answer expects.R2 (ends.Bytes count) response told shown a s = carried expects.R2 count response told shown a s
one_answer expects.R3 ends.Silent response told shown a s = s ∙ sym a
one_answer expects.R3 (ends.Bytes count) response told shown a s = carried expects.R3 count response told shown a s
one_answer expects.R6 ends.Silent response told shown a s = s ∙ sym a
one_answer expects.R6 (ends.Bytes count) response told shown a s = carried expects.R6 count response told shown a s
one_answer expects.R7 ends.Silent response told shown a s = s ∙ sym a
one_answer expects.R7 (ends.Bytes count) response told shown a s = carried expects.R7 count response told shown a s

-- an exchange that keeps the tables
exchange_keeps : {S : Type 0} (steps : S → WireCall → WireReturn → S → Type 0) (card : S → Option Card) (s s' : S)
    (k : Kind) (ask : Ask) (position argument : ℕ) (c : Card) (answer : Answer) →
    KeepsAt steps card s s' k (SendCommand ask position argument) c →
    Exchanged steps (command_of ask argument) (expect_of k ask) s answer s' →
    Kept card (SendCommand ask position argument) c (Answered answer) s'
exchange_keeps steps card s s' k ask position argument c answer keeps x =
    let heard = keeps x.frame x.response x.end x.is_command x.framed x.step in
    subst (λ a. Kept card (SendCommand ask position argument) c (Answered a) s')
    (one_answer (expect_of k ask) x.end x.response answer heard.answer x.answer_is heard.shown) heard.kept

-- the steps of a controller over a wire that keeps the tables
steps_keep : {S : Type 0} (steps : S → WireCall → WireReturn → S → Type 0) (card : S → Option Card) →
    WireKeepsTables steps card → KeepsTables (ControllerSteps steps) card
steps_keep steps card keeps s s' k (SendCommand ask position argument) c h (Answered answer) shown fine x =
    exchange_keeps steps card s s' k ask position argument c answer
    (keeps s s' k (SendCommand ask position argument) c h shown fine) x
steps_keep steps card keeps s s' k (SendCommand ask position argument) c h (BlocksIn end blocks) shown fine x = absurd x
steps_keep steps card keeps s s' k (SendCommand ask position argument) c h (RegisterIn end bytes) shown fine x =
    absurd x
steps_keep steps card keeps s s' k (SendCommand ask position argument) c h (BlocksOut end) shown fine x = absurd x
steps_keep steps card keeps s s' k (SendCommand ask position argument) c h (Waited end) shown fine x = absurd x
steps_keep steps card keeps s s' k (ReceiveBlocks lines count) c h returned shown fine x =
    keeps s s' k (ReceiveBlocks lines count) c h shown fine returned x
steps_keep steps card keeps s s' k (ReceiveRegister lines count) c h returned shown fine x =
    keeps s s' k (ReceiveRegister lines count) c h shown fine returned x
steps_keep steps card keeps s s' k (GiveBlocks lines blocks) c h returned shown fine x =
    keeps s s' k (GiveBlocks lines blocks) c h shown fine returned x
steps_keep steps card keeps s s' k AwaitReady c h returned shown fine x =
    keeps s s' k AwaitReady c h shown fine returned x

-- what holds a wire that keeps the tables keeps them
pub controller_keeps : {C S : Type 0} (wire : C → S) (steps : S → WireCall → WireReturn → S → Type 0)
    (card : S → Option Card) → WireKeepsTables steps card →
    KeepsTables (λ s call returned s'. ControllerSteps steps (wire s) call returned (wire s')) (λ s. card (wire s))
controller_keeps wire steps card keeps = keeps_by_part wire (ControllerSteps steps) card (steps_keep steps card keeps)
