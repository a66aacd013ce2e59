-- An answer that a host takes is of the kind that it waits for.
use Rattle.std.proofs.Common.{◌≡◌, true, refl, eq-eqb}
use Rattle.sdv_frames.specs.Frame.{Answers}
use Rattle.sdv_frames.specs.declared.reply.Expect.{Expect}
use Rattle.sdv_frames.specs.declared.reply.Expect.TheVariants as expects
use Rattle.sdv_frames.specs.declared.reply.Reply.{Reply}
use Rattle.sdv_frames.specs.declared.reply.Reply.TheVariants.{R1, R2, R3, R6, R7}
use Rattle.sdv_card.specs.declared.answer.Answer.{Answer}
use Rattle.sdv_card.specs.declared.answer.Answer.TheVariants as answers
use Rattle.sdv_card.specs.Expected.{AnswerExpected, is_of_kind}

reply_of_kind : (expect : Expect) (reply : Reply) → Answers expect reply → is_of_kind expect (answers.Reply reply) ≡ true
reply_of_kind (expects.R1 wanted) (R1 index status) e = eq-eqb index wanted e
reply_of_kind expects.R2 (R2 register) e = refl
reply_of_kind expects.R3 (R3 ocr) e = refl
reply_of_kind expects.R6 (R6 word) e = refl
reply_of_kind expects.R7 (R7 word) e = refl
reply_of_kind expect reply e = absurd e

pub of_kind : (expect : Expect) (answer : Answer) → AnswerExpected expect answer → is_of_kind expect answer ≡ true
of_kind expects.Nothing answers.Sent e = refl
of_kind (expects.R1 i) answers.TimeOut e = refl
of_kind expects.R2 answers.TimeOut e = refl
of_kind expects.R3 answers.TimeOut e = refl
of_kind expects.R6 answers.TimeOut e = refl
of_kind expects.R7 answers.TimeOut e = refl
of_kind (expects.R1 i) (answers.Reply reply) e = reply_of_kind (expects.R1 i) reply e
of_kind expects.R2 (answers.Reply reply) e = reply_of_kind expects.R2 reply e
of_kind expects.R3 (answers.Reply reply) e = reply_of_kind expects.R3 reply e
of_kind expects.R6 (answers.Reply reply) e = reply_of_kind expects.R6 reply e
of_kind expects.R7 (answers.Reply reply) e = reply_of_kind expects.R7 reply e
of_kind expect answer e = absurd e
