-- A damaged response is taken as a lost one.
use Rattle.std.proofs.Common.{◌≡◌, ℕ, Option, Some, None, refl, subst}
use Rattle.sdv_registers.specs.declared.kind.Kind.{Kind}
use Rattle.sdv_frames.specs.declared.fault.FrameFault.{FrameFault}
use Rattle.sdv_frames.specs.declared.reply.Expect.{Expect}
use Rattle.sdv_frames.specs.declared.reply.Expect.TheVariants as expects
use Rattle.sdv_card.specs.declared.answer.Answer.TheVariants.{Sent, TimeOut, Damaged, Reply}
use Rattle.sdv_card.specs.declared.command.Order.{Order}
use Rattle.sdv_card.specs.declared.command.Order.TheVariants.{GoIdleState, SendRelativeAddress, SetRelativeAddress, SendCsd}
use Rattle.sdv_card.specs.Card.{Card}
use Rattle.sdv_card.specs.CommandTable.{expect_of, order_of}
use Rattle.sdv_card.specs.Expected.{AnswerExpected}
use Rattle.sdv_card.specs.Host.{Host, host_after, host_after_order, rca_known, csd_known}
use Rattle.sdv_card.specs.ScriptEvent.{ScriptEvent, SendCommand, Return, Answered, BlocksIn, RegisterIn, BlocksOut, Waited}
use Rattle.sdv_card.specs.Step.{Step}
use Rattle.sdv_card.specs.Port.{Call, Kept, KeepsTables}
use Rattle.sdv_card.specs.Damage.{counts_as, StepOverNoise, KeptOverNoise, KeepsTablesOverNoise, DamageAsTimeOut, TellsNothing}
use Rattle.sdv_card.proofs.StepsExpected.{steps_are_expected}

-- HANDED ON AS A TIME-OUT

counted : {S : Type 0} (card : S → Option Card) (event : ScriptEvent) (c : Card) (heard returned : Return) (s' : S) →
    counts_as heard ≡ returned → KeptOverNoise card event c heard s' → Kept card event c returned s'
counted card event c heard returned s' is kept = record {
  after = kept.after;
  step = subst (λ r. Step event c r kept.after) is kept.step;
  shown = kept.shown;
}

pub handed_on : {S : Type 0} (steps : S → Call → Return → S → Type 0) (card : S → Option Card) → KeepsTablesOverNoise steps card →
    KeepsTables (DamageAsTimeOut steps) card
handed_on steps card keeps s s' k event c h returned shown fine step =
    counted card event c step.heard returned s' step.counts (keeps s s' k event c h step.heard shown fine step.step)

-- A PORT THAT KEEPS THE TABLES

-- no card answers with a damaged response
never_expected : (expect : Expect) (fault : FrameFault) → AnswerExpected expect (Damaged fault) → ⊥
never_expected expects.Nothing fault e = absurd e
never_expected (expects.R1 index) fault e = absurd e
never_expected expects.R2 fault e = absurd e
never_expected expects.R3 fault e = absurd e
never_expected expects.R6 fault e = absurd e
never_expected expects.R7 fault e = absurd e

never_damaged : (event : ScriptEvent) (c u : Card) (fault : FrameFault) → Step event c (Answered (Damaged fault)) u → ⊥
never_damaged (SendCommand ask position argument) c u fault step =
    never_expected (expect_of c.kind ask) fault
    (steps_are_expected c.kind (SendCommand ask position argument) c (Answered (Damaged fault)) u refl step)
never_damaged event c u fault step = absurd step

step_over_noise : (event : ScriptEvent) (c : Card) (returned : Return) (u : Card) → Step event c returned u → StepOverNoise event c returned u
step_over_noise event c (Answered (Damaged fault)) u step = absurd (never_damaged event c u fault step)
step_over_noise event c (Answered Sent) u step = step
step_over_noise event c (Answered TimeOut) u step = step
step_over_noise event c (Answered (Reply reply)) u step = step
step_over_noise event c (BlocksIn end blocks) u step = step
step_over_noise event c (RegisterIn end bytes) u step = step
step_over_noise event c (BlocksOut end) u step = step
step_over_noise event c (Waited end) u step = step

pub kept_over_noise : {S : Type 0} (card : S → Option Card) (event : ScriptEvent) (c : Card) (returned : Return) (s' : S) →
    Kept card event c returned s' → KeptOverNoise card event c returned s'
kept_over_noise card event c returned s' kept = record {
  after = kept.after;
  step = step_over_noise event c returned kept.after kept.step;
  shown = kept.shown;
}

pub keeps_over_noise : {S : Type 0} (steps : S → Call → Return → S → Type 0) (card : S → Option Card) → KeepsTables steps card →
    KeepsTablesOverNoise steps card
keeps_over_noise steps card keeps s s' k event c h returned shown fine step =
    kept_over_noise card event c returned s' (keeps s s' k event c h returned shown fine step)

-- WHAT A HOST LEARNS

same_rca : (order : Order) (fault : FrameFault) (rca : ℕ) → rca_known order (Damaged fault) rca ≡ rca_known order TimeOut rca
same_rca GoIdleState fault rca = refl
same_rca SendRelativeAddress fault rca = refl
same_rca SetRelativeAddress fault rca = refl
same_rca order fault rca = refl

same_csd : (order : Order) (fault : FrameFault) (csd : Option _) → csd_known order (Damaged fault) csd ≡ csd_known order TimeOut csd
same_csd SendCsd fault csd = refl
same_csd order fault csd = refl

same_order : (order : Option Order) (fault : FrameFault) (h : Host) → host_after_order order (Damaged fault) h ≡ host_after_order order TimeOut h
same_order None fault h = refl
same_order (Some order) fault h =
    let rca = same_rca order fault h.rca in
    let csd = same_csd order fault h.csd in
    cc

same_host : (k : Kind) (event : ScriptEvent) (fault : FrameFault) (h : Host) →
    host_after k event (Answered (Damaged fault)) h ≡ host_after k event (Answered TimeOut) h
same_host k (SendCommand ask position argument) fault h = same_order (order_of k ask) fault h
same_host k event fault h = refl

pub tells_nothing : (fault : FrameFault) → TellsNothing fault
tells_nothing fault = record {
  known = λ k event h. same_host k event fault h;
  seen = λ k pending. refl;
}
