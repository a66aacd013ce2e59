-- The calls of a wire, and what it means that a wire which shows a card keeps the tables.
use Rattle.std.specs.Prelude.{◌≡◌, ◌≤◌, ℕ, List, take, Option}
use Rattle.sdv_registers.specs.declared.kind.Kind.{Kind}
use Rattle.sdv_frames.specs.declared.reply.Expect.{Expect}
use Rattle.sdv_frames.specs.declared.reply.Expect.TheVariants.{Nothing}
use Rattle.sdv_frames.specs.declared.reply.Reply.{Reply}
use Rattle.sdv_frames.specs.Frame.{IsCommand, IsCommandFrame, IsReply, IsReplyFrame, Answers}
use Rattle.sdv_card.specs.declared.answer.Answer.{Answer}
use Rattle.sdv_card.specs.declared.answer.Answer.TheVariants as answers
use Rattle.sdv_card.specs.declared.event.Ask.{Ask}
use Rattle.sdv_card.specs.Card.{Card}
use Rattle.sdv_card.specs.Host.{Host}
use Rattle.sdv_card.specs.CommandTable.{expect_of}
use Rattle.sdv_card.specs.Port.{Call, Shows, IsFine, Kept, command_of, call_of}
use Rattle.sdv_card.specs.ScriptEvent.{ScriptEvent, SendCommand, Return, Answered}
use Rattle.sdv_controller.specs.declared.wire.WireEnd.{WireEnd}
use Rattle.sdv_controller.specs.declared.wire.WireEnd.TheVariants.{Silent, Bytes}

-- a call of a wire, without what it returns
pub data WireCall : Type 0 where
  -- the bytes of a frame
  Transfer : (frame : List ℕ) → WireCall
  -- a data phase or a wait, as at a port
  OtherCall : (call : Call) → WireCall

-- what a call returns
pub data WireReturn : Type 0 where
  -- with the room for the response as the wire left it
  Transferred : (end : WireEnd) (response : List ℕ) → WireReturn
  OtherReturn : (returned : Return) → WireReturn

-- the first bytes of the response are the frame of a reply that was waited for
pub record Carries (expect : Expect) (count : ℕ) (response : List ℕ) (reply : Reply) : Type 0 where
  pub room : count ≤ 17
  pub is_reply : IsReply reply
  pub answers : Answers expect reply
  pub frame : IsReplyFrame reply (take count response)

-- how a wire shows the answer of a card: a reply by its frame, a time-out by silence
abbrev pub ShowsAnswer : Expect → WireEnd → List ℕ → Answer → Type 0
ShowsAnswer Nothing end response answer = answer ≡ answers.Sent
ShowsAnswer expect Silent response answer = answer ≡ answers.TimeOut
ShowsAnswer expect (Bytes count) response answer =
    (reply : Reply) × (answer ≡ answers.Reply reply) × Carries expect count response reply

-- what was transferred is an answer of the card, and the wire shows the card after it
pub record Heard {S : Type 0} (card : S → Option Card) (k : Kind) (ask : Ask) (position argument : ℕ) (c : Card)
    (end : WireEnd) (response : List ℕ) (s' : S) : Type 0 where
  pub answer : Answer
  pub kept : Kept card (SendCommand ask position argument) c (Answered answer) s'
  pub shown : ShowsAnswer (expect_of k ask) end response answer

-- what a wire keeps at an event, by its kind
abbrev pub KeepsAt : {S : Type 0} → (S → WireCall → WireReturn → S → Type 0) → (S → Option Card) → S → S → Kind →
    ScriptEvent → Card → Type 0
KeepsAt steps card s s' k (SendCommand ask position argument) c =
    (frame response : List ℕ) (end : WireEnd) →
    IsCommand (command_of ask argument) → IsCommandFrame (command_of ask argument) frame →
    steps s (Transfer frame) (Transferred end response) s' → Heard card k ask position argument c end response s'
KeepsAt steps card s s' k event c =
    (returned : Return) → steps s (OtherCall (call_of k event)) (OtherReturn returned) s' →
    Kept card event c returned s'

-- A wire that shows a card keeps the tables: each legal event in bounds is a step of that card, if some host beside the
-- card makes the event, and the blocks of a phase that is due lie on the card. Of other calls nothing is known.
abbrev pub WireKeepsTables : {S : Type 0} → (S → WireCall → WireReturn → S → Type 0) → (S → Option Card) → Type 0
WireKeepsTables {S} steps card =
    (s s' : S) (k : Kind) (event : ScriptEvent) (c : Card) (h : Host) → Shows card s c → IsFine k event c h →
    KeepsAt steps card s s' k event c
