-- A controller over a wire that keeps the tables over a bus which may damage responses does so too; and it keeps the
-- tables where it hands each damaged response on as a time-out.
use Rattle.std.specs.Prelude.{◌≡◌, ◌⊎◌, ℕ, List, take, Option, nat_le, MatchBool, Bool, true, false}
use Rattle.std.proofs.Common.{refl, sym, ◌∙◌, ap, subst, inl, inr}
use borrow.Author.Tests.{leb-true}
use Rattle.sdv_frames.specs.declared.fault.FrameFault.TheVariants.{Length}
use Rattle.sdv_registers.specs.declared.kind.Kind.{Kind}
use Rattle.sdv_frames.specs.declared.reply.Expect.{Expect}
use Rattle.sdv_frames.specs.declared.reply.Expect.TheVariants as expects
use Rattle.sdv_frames.specs.declared.reply.Reply.{Reply}
use Rattle.sdv_card.specs.declared.answer.Answer.{Answer}
use Rattle.sdv_card.specs.declared.answer.Answer.TheVariants as answers
use Rattle.sdv_card.specs.declared.event.Ask.{Ask}
use Rattle.sdv_card.specs.Card.{Card}
use Rattle.sdv_card.specs.CommandTable.{expect_of}
use Rattle.sdv_card.specs.Step.{Step}
use Rattle.sdv_card.specs.Port.{Kept, KeepsTables, command_of}
use Rattle.sdv_card.specs.Damage.{counts_as, KeptOverNoise, KeepsTablesOverNoise, DamageAsTimeOut}
use Rattle.sdv_card.proofs.PortLaws.{keeps_by_part}
use Rattle.sdv_card.proofs.DamageLaws.{handed_on, kept_over_noise}
use Rattle.sdv_card.specs.ScriptEvent.{ScriptEvent, SendCommand, ReceiveBlocks, ReceiveRegister, GiveBlocks, AwaitReady, Return, Answered, BlocksIn, RegisterIn, BlocksOut, Waited}
use Rattle.sdv_controller.specs.declared.wire.WireEnd.{WireEnd}
use Rattle.sdv_controller.specs.declared.wire.WireEnd.TheVariants as ends
use Rattle.sdv_controller.specs.Wire.{WireCall, WireReturn, ShowsAnswer, Carries}
use Rattle.sdv_controller.specs.Noise.{ShowsDamage, KeepsAtOverNoise, WireKeepsTablesOverNoise}
use Rattle.sdv_controller.specs.Controlled.{ControllerSteps, Exchanged}
use Rattle.sdv_controller.specs.Answers.{AnswerIs, DecodesAs}
use Rattle.sdv_controller.specs.Keeps.{one_answer}

-- WHAT A CONTROLLER ANSWERS

-- a wire shows no damaged answer of a card
counts_as_itself : (told shown : Answer) → shown ≡ told → counts_as (Answered told) ≡ Answered told →
    counts_as (Answered shown) ≡ Answered shown
counts_as_itself told shown is same = ap (λ a. counts_as (Answered a)) is ∙ (same ∙ sym (ap Answered is))

undamaged : (expect : Expect) (end : WireEnd) (response : List ℕ) (shown : Answer) →
    ShowsAnswer expect end response shown → counts_as (Answered shown) ≡ Answered shown
undamaged expects.Nothing end response shown s = counts_as_itself answers.Sent shown s refl
undamaged (expects.R1 index) ends.Silent response shown s = counts_as_itself answers.TimeOut shown s refl
undamaged (expects.R1 index) (ends.Bytes count) response shown s = counts_as_itself (answers.Reply s.0) shown s.1 refl
undamaged expects.R2 ends.Silent response shown s = counts_as_itself answers.TimeOut shown s refl
undamaged expects.R2 (ends.Bytes count) response shown s = counts_as_itself (answers.Reply s.0) shown s.1 refl
undamaged expects.R3 ends.Silent response shown s = counts_as_itself answers.TimeOut shown s refl
undamaged expects.R3 (ends.Bytes count) response shown s = counts_as_itself (answers.Reply s.0) shown s.1 refl
undamaged expects.R6 ends.Silent response shown s = counts_as_itself answers.TimeOut shown s refl
undamaged expects.R6 (ends.Bytes count) response shown s = counts_as_itself (answers.Reply s.0) shown s.1 refl
undamaged expects.R7 ends.Silent response shown s = counts_as_itself answers.TimeOut shown s refl
undamaged expects.R7 (ends.Bytes count) response shown s = counts_as_itself (answers.Reply s.0) shown s.1 refl

-- bytes that carry no reply are damaged
none_decoded : (expect : Expect) (count : ℕ) (response : List ℕ) (told : Answer) (fits : Bool) → nat_le count 17 ≡ fits →
    MatchBool fits (DecodesAs expect (take count response) told) (told ≡ answers.Damaged Length) →
    ((reply : Reply) → Carries expect count response reply → ⊥) → counts_as (Answered told) ≡ Answered answers.TimeOut
none_decoded expect count response told false fits a none = ap (λ a. counts_as (Answered a)) a
none_decoded expect count response answers.Sent true fits a none = absurd a
none_decoded expect count response answers.TimeOut true fits a none = absurd a
none_decoded expect count response (answers.Reply reply) true fits a none =
    absurd (none reply (record { room = leb-true count 17 fits; is_reply = a.0; answers = a.1; frame = a.2 }))
none_decoded expect count response (answers.Damaged fault) true fits a none = refl

damage_told : (expect : Expect) (end : WireEnd) (response : List ℕ) (told shown : Answer) →
    AnswerIs expect end response told → ShowsDamage expect end response shown → counts_as (Answered told) ≡ Answered shown
damage_told expects.Nothing end response told shown a s = absurd s
damage_told (expects.R1 index) ends.Silent response told shown a s = absurd s
damage_told (expects.R1 index) (ends.Bytes count) response told shown a s =
    none_decoded (expects.R1 index) count response told (nat_le count 17) refl a s.1 ∙ sym (ap Answered s.0)
damage_told expects.R2 ends.Silent response told shown a s = absurd s
damage_told expects.R2 (ends.Bytes count) response told shown a s =
    none_decoded expects.R2 count response told (nat_le count 17) refl a s.1 ∙ sym (ap Answered s.0)
damage_told expects.R3 ends.Silent response told shown a s = absurd s
damage_told expects.R3 (ends.Bytes count) response told shown a s =
    none_decoded expects.R3 count response told (nat_le count 17) refl a s.1 ∙ sym (ap Answered s.0)
damage_told expects.R6 ends.Silent response told shown a s = absurd s
damage_told expects.R6 (ends.Bytes count) response told shown a s =
    none_decoded expects.R6 count response told (nat_le count 17) refl a s.1 ∙ sym (ap Answered s.0)
damage_told expects.R7 ends.Silent response told shown a s = absurd s
damage_told expects.R7 (ends.Bytes count) response told shown a s =
    none_decoded expects.R7 count response told (nat_le count 17) refl a s.1 ∙ sym (ap Answered s.0)

-- what the controller's answer counts as is the answer of the card
one_answer_counts : (expect : Expect) (end : WireEnd) (response : List ℕ) (told shown : Answer) →
    AnswerIs expect end response told → ShowsAnswer expect end response shown ⊎ ShowsDamage expect end response shown →
    counts_as (Answered told) ≡ Answered shown
one_answer_counts expect end response told shown a (inl s) =
    ap (λ a. counts_as (Answered a)) (sym (one_answer expect end response told shown a s)) ∙ undamaged expect end response shown s
one_answer_counts expect end response told shown a (inr s) = damage_told expect end response told shown a s

-- THE STEPS OF A CONTROLLER

step_counted : {S : Type 0} (card : S → Option Card) (event : ScriptEvent) (c : Card) (heard returned : Return) (s' : S) →
    counts_as heard ≡ returned → Kept card event c returned s' → KeptOverNoise card event c heard s'
step_counted card event c heard returned s' is kept = record {
  after = kept.after;
  step = subst (λ r. Step event c r kept.after) (sym is) kept.step;
  shown = kept.shown;
}

exchange_keeps : {S : Type 0} (steps : S → WireCall → WireReturn → S → Type 0) (card : S → Option Card) (s s' : S)
    (k : Kind) (ask : Ask) (position argument : ℕ) (c : Card) (answer : Answer) →
    KeepsAtOverNoise steps card s s' k (SendCommand ask position argument) c →
    Exchanged steps (command_of ask argument) (expect_of k ask) s answer s' →
    KeptOverNoise card (SendCommand ask position argument) c (Answered answer) s'
exchange_keeps steps card s s' k ask position argument c answer keeps x =
    let heard = keeps x.frame x.response x.end x.is_command x.framed x.step in
    step_counted card (SendCommand ask position argument) c (Answered answer) (Answered heard.answer) s'
    (one_answer_counts (expect_of k ask) x.end x.response answer heard.answer x.answer_is heard.shown) heard.kept

pub steps_keep_over_noise : {S : Type 0} (steps : S → WireCall → WireReturn → S → Type 0) (card : S → Option Card) →
    WireKeepsTablesOverNoise steps card → KeepsTablesOverNoise (ControllerSteps steps) card
steps_keep_over_noise steps card keeps s s' k (SendCommand ask position argument) c h (Answered answer) shown fine x =
    exchange_keeps steps card s s' k ask position argument c answer
    (keeps s s' k (SendCommand ask position argument) c h shown fine) x
steps_keep_over_noise steps card keeps s s' k (SendCommand ask position argument) c h (BlocksIn end blocks) shown fine x = absurd x
steps_keep_over_noise steps card keeps s s' k (SendCommand ask position argument) c h (RegisterIn end bytes) shown fine x = absurd x
steps_keep_over_noise steps card keeps s s' k (SendCommand ask position argument) c h (BlocksOut end) shown fine x = absurd x
steps_keep_over_noise steps card keeps s s' k (SendCommand ask position argument) c h (Waited end) shown fine x = absurd x
steps_keep_over_noise steps card keeps s s' k (ReceiveBlocks lines count) c h returned shown fine x =
    kept_over_noise card (ReceiveBlocks lines count) c returned s' (keeps s s' k (ReceiveBlocks lines count) c h shown fine returned x)
steps_keep_over_noise steps card keeps s s' k (ReceiveRegister lines count) c h returned shown fine x =
    kept_over_noise card (ReceiveRegister lines count) c returned s' (keeps s s' k (ReceiveRegister lines count) c h shown fine returned x)
steps_keep_over_noise steps card keeps s s' k (GiveBlocks lines blocks) c h returned shown fine x =
    kept_over_noise card (GiveBlocks lines blocks) c returned s' (keeps s s' k (GiveBlocks lines blocks) c h shown fine returned x)
steps_keep_over_noise steps card keeps s s' k AwaitReady c h returned shown fine x =
    kept_over_noise card AwaitReady c returned s' (keeps s s' k AwaitReady c h shown fine returned x)

-- what holds such a wire, and hands damage on as a time-out, keeps the tables
pub tolerant_keeps : {C S : Type 0} (wire : C → S) (steps : S → WireCall → WireReturn → S → Type 0) (card : S → Option Card) →
    WireKeepsTablesOverNoise steps card →
    KeepsTables (λ s call returned s'. DamageAsTimeOut (ControllerSteps steps) (wire s) call returned (wire s')) (λ s. card (wire s))
tolerant_keeps wire steps card keeps =
    keeps_by_part wire (DamageAsTimeOut (ControllerSteps steps)) card
    (handed_on (ControllerSteps steps) card (steps_keep_over_noise steps card keeps))
