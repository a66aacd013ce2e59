-- Wires over a bus that may damage responses, and what it means that such a wire keeps the tables.
use Rattle.std.specs.Prelude.{◌≡◌, ◌⊎◌, ℕ, List, Option}
use Rattle.sdv_registers.specs.declared.kind.Kind.{Kind}
use Rattle.sdv_frames.specs.declared.reply.Expect.{Expect}
use Rattle.sdv_frames.specs.declared.reply.Expect.TheVariants.{Nothing}
use Rattle.sdv_frames.specs.declared.reply.Reply.{Reply}
use Rattle.sdv_frames.specs.Frame.{IsCommand, IsCommandFrame}
use Rattle.sdv_card.specs.declared.answer.Answer.{Answer}
use Rattle.sdv_card.specs.declared.answer.Answer.TheVariants as answers
use Rattle.sdv_card.specs.declared.event.Ask.{Ask}
use Rattle.sdv_card.specs.Card.{Card}
use Rattle.sdv_card.specs.Host.{Host}
use Rattle.sdv_card.specs.CommandTable.{expect_of}
use Rattle.sdv_card.specs.Port.{Shows, IsFine, Kept, command_of, call_of}
use Rattle.sdv_card.specs.ScriptEvent.{ScriptEvent, SendCommand, Return, Answered}
use Rattle.sdv_controller.specs.declared.wire.WireEnd.{WireEnd}
use Rattle.sdv_controller.specs.declared.wire.WireEnd.TheVariants.{Silent, Bytes}
use Rattle.sdv_controller.specs.Wire.{WireCall, WireReturn, Transfer, OtherCall, Transferred, OtherReturn, Carries, ShowsAnswer}

-- how a wire shows damage: by bytes that are no frame of a response that was waited for; the card lost its response
abbrev pub ShowsDamage : Expect → WireEnd → List ℕ → Answer → Type 0
ShowsDamage Nothing end response answer = ⊥
ShowsDamage expect Silent response answer = ⊥
ShowsDamage expect (Bytes count) response answer =
    (answer ≡ answers.TimeOut) × ((reply : Reply) → Carries expect count response reply → ⊥)

-- what was transferred is an answer of the card, or damage in place of one that was lost
pub record HeardOverNoise {S : Type 0} (card : S → Option Card) (k : Kind) (ask : Ask) (position argument : ℕ) (c : Card)
    (end : WireEnd) (response : List ℕ) (s' : S) : Type 0 where
  pub answer : Answer
  pub kept : Kept card (SendCommand ask position argument) c (Answered answer) s'
  pub shown : ShowsAnswer (expect_of k ask) end response answer ⊎ ShowsDamage (expect_of k ask) end response answer

-- what a wire keeps at an event, by its kind
abbrev pub KeepsAtOverNoise : {S : Type 0} → (S → WireCall → WireReturn → S → Type 0) → (S → Option Card) → S → S → Kind →
    ScriptEvent → Card → Type 0
KeepsAtOverNoise steps card s s' k (SendCommand ask position argument) c =
    (frame response : List ℕ) (end : WireEnd) →
    IsCommand (command_of ask argument) → IsCommandFrame (command_of ask argument) frame →
    steps s (Transfer frame) (Transferred end response) s' → HeardOverNoise card k ask position argument c end response s'
KeepsAtOverNoise steps card s s' k event c =
    (returned : Return) → steps s (OtherCall (call_of k event)) (OtherReturn returned) s' →
    Kept card event c returned s'

-- A wire keeps the tables over a bus that may damage responses: each legal event in bounds is a step of the card, as with a
-- wire that keeps the tables, but that a response which the card loses may come as damage.
abbrev pub WireKeepsTablesOverNoise : {S : Type 0} → (S → WireCall → WireReturn → S → Type 0) → (S → Option Card) → Type 0
WireKeepsTablesOverNoise {S} steps card =
    (s s' : S) (k : Kind) (event : ScriptEvent) (c : Card) (h : Host) → Shows card s c → IsFine k event c h →
    KeepsAtOverNoise steps card s s' k event c
