-- Damaged responses: what a card does whose response is damaged on the bus, and what it means that a port over such a bus
-- keeps the tables.
-- SD Physical Layer Simplified Specification, sections 4.5 (cyclic redundancy code) and 4.9 (responses); JESD84-B51,
-- section 6.12. That a card whose response is damaged does what it does where its response is lost is this project's
-- profile.
use Rattle.std.specs.Prelude.{◌≡◌, Bool, Option}
use Rattle.sdv_registers.specs.declared.kind.Kind.{Kind}
use Rattle.sdv_frames.specs.declared.fault.FrameFault.{FrameFault}
use Rattle.sdv_card.specs.declared.answer.Answer.TheVariants.{TimeOut, Damaged}
use Rattle.sdv_card.specs.Card.{Card}
use Rattle.sdv_card.specs.Host.{Host, host_after}
use Rattle.sdv_card.specs.ScriptEvent.{ScriptEvent, Return, Answered}
use Rattle.sdv_card.specs.Step.{Step}
use Rattle.sdv_card.specs.Port.{Call, Shows, IsFine, call_of}
use Rattle.sdv_card.specs.Seen.{seen_of}

-- what a damaged response counts as: a lost one
abbrev pub counts_as : Return → Return
counts_as (Answered (Damaged fault)) = Answered TimeOut
counts_as returned = returned

-- A step of a card over a bus that may damage its response: where the host hears a damaged one, the card does what it does
-- where its response is lost. A command without a response has none that is damaged.
abbrev pub StepOverNoise : ScriptEvent → Card → (heard : Return) → Card → Type 0
StepOverNoise event c heard u = Step event c (counts_as heard) u

-- what a call did is such a step of the card, and the port shows the card after it
pub record KeptOverNoise {S : Type 0} (card : S → Option Card) (event : ScriptEvent) (c : Card) (heard : Return)
    (s' : S) : Type 0 where
  pub after : Card
  pub step : StepOverNoise event c heard after
  pub shown : Shows card s' after

-- A port keeps the tables over a bus that may damage responses: the call of each legal event in bounds is such a step of
-- the card, under the premises of `KeepsTables`. So damage is recognised: a response that is returned is as the card sent
-- it.
abbrev pub KeepsTablesOverNoise : {S : Type 0} → (S → Call → Return → S → Type 0) → (S → Option Card) → Type 0
KeepsTablesOverNoise steps card =
    (s s' : _) (k : Kind) (event : ScriptEvent) (c : Card) (h : Host) (heard : Return) →
    Shows card s c → IsFine k event c h → steps s (call_of k event) heard s' → KeptOverNoise card event c heard s'

-- the steps of a port that hands each damaged response on as a time-out, by those of the port under it
pub record DamageAsTimeOut {S : Type 0} (steps : S → Call → Return → S → Type 0) (s : S) (call : Call) (returned : Return)
    (s' : S) : Type 0 where
  pub heard : Return
  pub counts : counts_as heard ≡ returned
  pub step : steps s call heard s'

-- a host knows no more after a damaged response than after a lost one, and the tables see no more
pub record TellsNothing (fault : FrameFault) : Type 0 where
  pub known : (k : Kind) (event : ScriptEvent) (h : Host) →
      host_after k event (Answered (Damaged fault)) h ≡ host_after k event (Answered TimeOut) h
  pub seen : (k : Kind) (pending : Bool) →
      seen_of k pending (Answered (Damaged fault)) ≡ seen_of k pending (Answered TimeOut)
