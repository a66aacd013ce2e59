-- An answer tells one return, but for the blocks or bytes of a phase that was cut.
use Rattle.std.proofs.Common.{◌≡◌, ℕ, List, [], ◌∷◌, Option, refl, sym, ap, ◌∙◌, subst, inl, inr, arith}
use Rattle.std.specs.Prelude.{◌≢◌}
use Rattle.std.specs.Int.{w32, to_be_bytes, from_be_bytes}
use Rattle.std.proofs.lemmas.Nat.{from_be_bytes-to_be_bytes_4}
use Rattle.hex.proofs.HexLemmas.{decode_of-same}
use Rattle.sdv_text.specs.Fronts.{after}
use Rattle.sdv_text.proofs.FrontLaws.{after_again, some_is}
use Rattle.sdv_registers.specs.declared.kind.Kind.{Kind}
use Rattle.sdv_frames.specs.declared.reply.Expect.{Expect}
use Rattle.sdv_frames.specs.declared.reply.Expect.TheVariants as expects
use Rattle.sdv_frames.specs.declared.reply.Reply.{Reply}
use Rattle.sdv_frames.specs.declared.reply.Reply.TheVariants.{R1, R2, R3, R6, R7}
use Rattle.sdv_card.specs.declared.answer.Answer.{Answer}
use Rattle.sdv_card.specs.declared.answer.Answer.TheVariants as answers
use Rattle.sdv_card.specs.declared.answer.DataEnd.{DataEnd}
use Rattle.sdv_card.specs.declared.answer.DataEnd.TheVariants as ends
use Rattle.sdv_card.specs.declared.answer.WaitEnd.{WaitEnd}
use Rattle.sdv_card.specs.declared.answer.WaitEnd.TheVariants as waits
use Rattle.sdv_card.specs.Card.{Card, Block}
use Rattle.sdv_card.specs.Damage.{KeepsTablesOverNoise, KeptOverNoise, counts_as}
use Rattle.sdv_card.specs.Port.{Call, Exchange, DataIn, DataInRegister, DataOut, WaitWhileBusy, Shows, KeepsTables, command_of, call_of}
use Rattle.sdv_card.specs.ScriptEvent.{ScriptEvent, SendCommand, ReceiveBlocks, ReceiveRegister, GiveBlocks, AwaitReady, Return, Answered, BlocksIn, RegisterIn, BlocksOut, Waited}
use Rattle.sdv_card.specs.CommandTable.{expect_of}
use Rattle.sdv_card.specs.Modes.{line_count}
use Rattle.sdv_card.specs.Step.{Step}
use Rattle.sdv_lines.specs.declared.words.TheConstants as words
use Rattle.sdv_lines.specs.Texts.{AreDigits, AreBlocks, trims}
use Rattle.sdv_lines.specs.Answers.{IsReplyOf, IsWordOf, SaysLost, TellsReply, TellsAnswer, data_end_text, wait_end_text, IsAnswer}
use Rattle.sdv_lines.specs.Partner.{BothSteps, other_card, ShowsOtherCard}

-- ANSWERS TO COMMANDS

bytes_once : (format a b text : List ℕ) → IsReplyOf format a text → IsReplyOf format b text → a ≡ b
bytes_once format a b text p q =
    let same : p.digits ≡ q.digits =
    some_is p.digits q.digits (sym (after_again format p.digits) ∙ ap (after format) (sym p.split ∙ q.split) ∙ after_again format q.digits) in
    decode_of-same q.digits a b (subst (λ l. AreDigits l a) same p.are) q.are

word_once : (format text : List ℕ) (a b : ℕ) → IsWordOf format a text → IsWordOf format b text → a ≡ b
word_once format text a b p q =
    sym (from_be_bytes-to_be_bytes_4 a p.fits)
    ∙ ap (from_be_bytes w32) (bytes_once format (to_be_bytes w32 a) (to_be_bytes w32 b) text p.reply q.reply)
    ∙ from_be_bytes-to_be_bytes_4 b q.fits

reply_once : (expect : Expect) (a b : Reply) (text : List ℕ) → TellsReply expect a text → TellsReply expect b text → a ≡ b
reply_once (expects.R1 wanted) (R1 i s) (R1 j t) text p q =
    let index : i ≡ j = p.0 ∙ sym q.0 in
    let status : s ≡ t = word_once words.R1_CAME.now text s t p.1 q.1 in
    cc
reply_once expects.R2 (R2 r) (R2 s) text p q = ap R2 (bytes_once words.R2_CAME.now r s text p.1 q.1)
reply_once expects.R3 (R3 a) (R3 b) text p q = ap R3 (word_once words.R3_CAME.now text a b p q)
reply_once expects.R6 (R6 a) (R6 b) text p q = ap R6 (word_once words.R6_CAME.now text a b p q)
reply_once expects.R7 (R7 a) (R7 b) text p q = ap R7 (word_once words.R7_CAME.now text a b p q)
reply_once (expects.R1 wanted) (R1 i s) b text p q = absurd q
reply_once expects.R2 (R2 r) b text p q = absurd q
reply_once expects.R3 (R3 a) b text p q = absurd q
reply_once expects.R6 (R6 a) b text p q = absurd q
reply_once expects.R7 (R7 a) b text p q = absurd q
reply_once expect a b text p q = absurd p

abbrev first : List ℕ → ℕ
first [] = 0
first (x ∷ xs) = x

reply_first : (expect : Expect) (reply : Reply) (text : List ℕ) → TellsReply expect reply text → first text ≡ 82
reply_first (expects.R1 wanted) (R1 i s) text p = ap first p.1.reply.split
reply_first expects.R2 (R2 r) text p = ap first p.1.split
reply_first expects.R3 (R3 a) text p = ap first p.reply.split
reply_first expects.R6 (R6 a) text p = ap first p.reply.split
reply_first expects.R7 (R7 a) text p = ap first p.reply.split
reply_first expect reply text p = absurd p

-- what a text tells, by the answer
abbrev Uniform : Expect → Answer → List ℕ → Type 0
Uniform expect answers.Sent text = expect ≡ expects.Nothing
Uniform expect answers.TimeOut text = (expect ≢ expects.Nothing) × (first text ≢ 82)
Uniform expect (answers.Damaged fault) text = ⊥
Uniform expect (answers.Reply reply) text = (expect ≢ expects.Nothing) × (first text ≡ 82) × TellsReply expect reply text

lost_first : (text : List ℕ) → SaysLost text → first text ≢ 82
lost_first text (inl t) is = let clash : 116 ≡ 82 = sym (ap first t) ∙ is in absurd (omega (arith, clash))
lost_first text (inr t) is = let clash : 100 ≡ 82 = sym (ap first t) ∙ is in absurd (omega (arith, clash))

uniform : (expect : Expect) (answer : Answer) (text : List ℕ) → TellsAnswer expect answer text → Uniform expect answer text
uniform expects.Nothing answers.Sent text t = refl
uniform expects.Nothing answer text t = absurd t
uniform (expects.R1 i) answers.TimeOut text t = (λ e. absurd (cc), lost_first text t)
uniform (expects.R1 i) (answers.Reply reply) text t = (λ e. absurd (cc), reply_first (expects.R1 i) reply text t, t)
uniform expects.R2 answers.TimeOut text t = (λ e. absurd (cc), lost_first text t)
uniform expects.R2 (answers.Reply reply) text t = (λ e. absurd (cc), reply_first expects.R2 reply text t, t)
uniform expects.R3 answers.TimeOut text t = (λ e. absurd (cc), lost_first text t)
uniform expects.R3 (answers.Reply reply) text t = (λ e. absurd (cc), reply_first expects.R3 reply text t, t)
uniform expects.R6 answers.TimeOut text t = (λ e. absurd (cc), lost_first text t)
uniform expects.R6 (answers.Reply reply) text t = (λ e. absurd (cc), reply_first expects.R6 reply text t, t)
uniform expects.R7 answers.TimeOut text t = (λ e. absurd (cc), lost_first text t)
uniform expects.R7 (answers.Reply reply) text t = (λ e. absurd (cc), reply_first expects.R7 reply text t, t)
uniform expect answer text t = absurd t

uniform_once : (expect : Expect) (a b : Answer) (text : List ℕ) → Uniform expect a text → Uniform expect b text → a ≡ b
uniform_once expect answers.Sent answers.Sent text p q = refl
uniform_once expect answers.Sent answers.TimeOut text p q = absurd (q.0 p)
uniform_once expect answers.Sent (answers.Reply r) text p q = absurd (q.0 p)
uniform_once expect answers.TimeOut answers.Sent text p q = absurd (p.0 q)
uniform_once expect answers.TimeOut answers.TimeOut text p q = refl
uniform_once expect answers.TimeOut (answers.Reply r) text p q = absurd (p.1 q.1)
uniform_once expect (answers.Reply s) answers.Sent text p q = absurd (p.0 q)
uniform_once expect (answers.Reply s) answers.TimeOut text p q = absurd (q.1 p.1)
uniform_once expect (answers.Reply s) (answers.Reply r) text p q = ap answers.Reply (reply_once expect s r text p.2 q.2)
uniform_once expect (answers.Damaged f) b text p q = absurd p
uniform_once expect a (answers.Damaged f) text p q = absurd q

pub answer_once : (expect : Expect) (a b : Answer) (text : List ℕ) → TellsAnswer expect a text → TellsAnswer expect b text → a ≡ b
answer_once expect a b text p q = uniform_once expect a b text (uniform expect a text p) (uniform expect b text q)

-- THE ENDS OF PHASES AND WAITS

differs : (text : List ℕ) (a b : ℕ) → first text ≡ a → first text ≡ b → (a ≡ b → ⊥) → ⊥
differs text a b p q n = n (sym p ∙ q)

ok_or_cut : (text : List ℕ) → text ≡ words.OK.now → text ≡ words.CUT.now → ⊥
ok_or_cut text p q = differs text 111 99 (ap first p) (ap first q) (λ e. omega arith)

end_once : (a b : DataEnd) (text : List ℕ) → text ≡ data_end_text a → text ≡ data_end_text b → a ≡ b
end_once ends.Ok ends.Ok text p q = refl
end_once ends.Ok ends.Cut text p q = absurd (ok_or_cut text p q)
end_once ends.Cut ends.Ok text p q = absurd (ok_or_cut text q p)
end_once ends.Cut ends.Cut text p q = refl

wait_once : (a b : WaitEnd) (text : List ℕ) → text ≡ wait_end_text a → text ≡ wait_end_text b → a ≡ b
wait_once waits.Ok waits.Ok text p q = refl
wait_once waits.Ok waits.Late text p q = absurd (differs text 111 108 (ap first p) (ap first q) (λ e. omega arith))
wait_once waits.Late waits.Ok text p q = absurd (differs text 108 111 (ap first p) (ap first q) (λ e. omega arith))
wait_once waits.Late waits.Late text p q = refl

blocks_once : (texts : List (List ℕ)) (a b : List Block) → AreBlocks texts a → AreBlocks texts b → a ≡ b
blocks_once [] [] [] p q = refl
blocks_once [] [] (y ∷ b) p q = absurd q
blocks_once [] (x ∷ a) b p q = absurd p
blocks_once (text ∷ texts) [] b p q = absurd p
blocks_once (text ∷ texts) (x ∷ a) [] p q = absurd q
blocks_once (text ∷ texts) (x ∷ a) (y ∷ b) p q =
    let heads : x ≡ y = decode_of-same text x y p.0 q.0 in
    let tails : a ≡ b = blocks_once texts a b p.2 q.2 in
    cc

-- THE SAME STEP: what one return of an answer makes of a card, any other does

same_send : (k : Kind) (event : ScriptEvent) (command : _) (expect : Expect) (texts : List (List ℕ)) (returned gave : Return) (c u : Card)
    → IsAnswer (Exchange command expect) texts returned → IsAnswer (Exchange command expect) texts gave → Step event c gave u → Step event c returned u
same_send k event command expect (text ∷ []) (Answered a) (Answered b) c u p q step =
    subst (λ x. Step event c (Answered x) u) (answer_once expect b a text q p) step
same_send k event command expect (text ∷ []) (Answered a) gave c u p q step = absurd q
same_send k event command expect texts returned gave c u p q step = absurd p

same_blocks : (width : _) (lines count : ℕ) (texts : List (List ℕ)) (returned gave : Return) (c u : Card) → IsAnswer (DataIn lines count) texts returned
    → IsAnswer (DataIn lines count) texts gave → Step (ReceiveBlocks width count) c gave u → Step (ReceiveBlocks width count) c returned u
same_blocks width lines count (text ∷ texts) (BlocksIn ends.Ok a) (BlocksIn ends.Ok b) c u p q step =
    subst (λ x. Step (ReceiveBlocks width count) c (BlocksIn ends.Ok x) u) (blocks_once texts b a q.2 p.2) step
same_blocks width lines count (text ∷ []) (BlocksIn ends.Ok a) (BlocksIn ends.Cut b) c u p q step = absurd (ok_or_cut text p.0 q.0)
same_blocks width lines count (text ∷ []) (BlocksIn ends.Cut a) (BlocksIn ends.Ok b) c u p q step = absurd (ok_or_cut text q.0 p.0)
same_blocks width lines count (text ∷ []) (BlocksIn ends.Cut a) (BlocksIn ends.Cut b) c u p q step =
    record { due = step.due; size = p.1; truth = tt; moved = step.moved }
same_blocks width lines count (text ∷ []) (BlocksIn ends.Ok a) gave c u p q step = absurd q
same_blocks width lines count (text ∷ []) (BlocksIn ends.Cut a) gave c u p q step = absurd q
same_blocks width lines count (text ∷ more ∷ texts) (BlocksIn ends.Ok a) gave c u p q step = absurd q
same_blocks width lines count texts returned gave c u p q step = absurd p

same_register : (width : _) (lines count : ℕ) (texts : List (List ℕ)) (returned gave : Return) (c u : Card)
    → IsAnswer (DataInRegister lines count) texts returned → IsAnswer (DataInRegister lines count) texts gave
    → Step (ReceiveRegister width count) c gave u → Step (ReceiveRegister width count) c returned u
same_register width lines count (text ∷ digits ∷ []) (RegisterIn ends.Ok a) (RegisterIn ends.Ok b) c u p q step =
    subst (λ x. Step (ReceiveRegister width count) c (RegisterIn ends.Ok x) u) (decode_of-same digits b a q.3 p.3) step
same_register width lines count (text ∷ digits ∷ []) (RegisterIn ends.Ok a) gave c u p q step = absurd q
same_register width lines count (text ∷ []) (RegisterIn ends.Cut a) (RegisterIn ends.Cut b) c u p q step =
    record { due = step.due; size = p.1; truth = tt; moved = step.moved }
same_register width lines count (text ∷ []) (RegisterIn ends.Cut a) gave c u p q step = absurd q
same_register width lines count texts returned gave c u p q step = absurd p

same_out : (event : ScriptEvent) (lines : ℕ) (blocks : List Block) (texts : List (List ℕ)) (returned gave : Return) (c u : Card)
    → IsAnswer (DataOut lines blocks) texts returned → IsAnswer (DataOut lines blocks) texts gave → Step event c gave u → Step event c returned u
same_out event lines blocks (text ∷ []) (BlocksOut a) (BlocksOut b) c u p q step =
    subst (λ x. Step event c (BlocksOut x) u) (end_once b a text q p) step
same_out event lines blocks (text ∷ []) (BlocksOut a) gave c u p q step = absurd q
same_out event lines blocks texts returned gave c u p q step = absurd p

same_wait : (event : ScriptEvent) (texts : List (List ℕ)) (returned gave : Return) (c u : Card)
    → IsAnswer WaitWhileBusy texts returned → IsAnswer WaitWhileBusy texts gave → Step event c gave u → Step event c returned u
same_wait event (text ∷ []) (Waited a) (Waited b) c u p q step = subst (λ x. Step event c (Waited x) u) (wait_once b a text q p) step
same_wait event (text ∷ []) (Waited a) gave c u p q step = absurd q
same_wait event texts returned gave c u p q step = absurd p

same_step : (k : Kind) (event : ScriptEvent) (texts : List (List ℕ)) (returned gave : Return) (c u : Card) → IsAnswer (call_of k event) texts returned
    → IsAnswer (call_of k event) texts gave → Step event c gave u → Step event c returned u
same_step k (SendCommand ask position argument) texts returned gave c u p q step =
    same_send k (SendCommand ask position argument) (command_of ask argument) (expect_of k ask) texts returned gave c u p q step
same_step k (ReceiveBlocks width count) texts returned gave c u p q step = same_blocks width (line_count width) count texts returned gave c u p q step
same_step k (ReceiveRegister width count) texts returned gave c u p q step = same_register width (line_count width) count texts returned gave c u p q step
same_step k (GiveBlocks width blocks) texts returned gave c u p q step = same_out (GiveBlocks width blocks) (line_count width) blocks texts returned gave c u p q step
same_step k AwaitReady texts returned gave c u p q step = same_wait AwaitReady texts returned gave c u p q step

-- THE CARD OF THE OTHER SIDE

module _ {S : Type 0} (steps : S → Call → Return → S → Type 0) (card : S → Option Card) (keeps : KeepsTablesOverNoise steps card) where
  both_keep : KeepsTables (BothSteps steps) (other_card card)
  both_keep b b' k event c h returned shown fine made =
      let seen : Shows card b.other c = record { shown = shown.shown; shows = shown.shows; same = shown.same; count = shown.count } in
      let kept : KeptOverNoise card event c made.gave b'.other = keeps b.other b'.other k event c h made.gave seen fine made.step in
      record {
        after = kept.after;
        step = same_step k event (trims made.texts) returned (counts_as made.gave) c kept.after made.heard.says made.told kept.step;
        shown = record { shown = kept.shown.shown; shows = kept.shown.shows; same = kept.shown.same; count = kept.shown.count };
      }

  pub shows_other : ShowsOtherCard steps card
  shows_other = (
    both_keep,
    λ call returned b b' made. record {
      due = made.due;
      announced = made.announced;
      written = made.written;
      heard = record { texts = made.texts; answers = made.heard; read = made.read };
      spent = made.spent;
      well = made.well;
    },
  )
