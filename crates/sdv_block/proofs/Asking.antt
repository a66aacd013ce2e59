-- A COMMAND whose answer is guarded: the walk halts with the card's blocks as they were, or goes on where the guards hold.
use Rattle.std.proofs.Common.{◌≡◌, ℕ, inl, inr, refl, Bool, true, false, List, [], ◌∷◌, Some}
use Rattle.std.specs.Prelude.{◌⊎◌, codes}
use Rattle.std.specs.Str.{bytes_eq}
use Rattle.sdv_registers.specs.declared.kind.Kind.{Kind}
use Rattle.sdv_card.specs.declared.answer.Answer.{Answer}
use Rattle.sdv_card.specs.declared.guard.Guard.{Guard}
use Rattle.sdv_card.specs.Card.{Card}
use Rattle.sdv_card.specs.CommandTable.{order_of}
use Rattle.sdv_card.specs.Host.{Host, host_after}
use Rattle.sdv_card.specs.ScriptEvent.{Answered}
use Rattle.sdv_card.specs.Step.{Sends}
use Rattle.sdv_graph.specs.declared.tree.ScriptCommand.{ScriptCommand}
use Rattle.sdv_graph.specs.AddressSent.{position_of_command}
use Rattle.sdv_graph.specs.Tree.{Ways, send}
use Rattle.sdv_graph.specs.Walk.{Pair, Ending, Open, Failed, Rest, Stops, all_pass, walk_statement}
use Rattle.sdv_facts.specs.Beside.{IsAllowed}
use Rattle.sdv_block.specs.RequestStatements.{only_if}
use Rattle.sdv_block.specs.Served.{AllowedSteps}
use Rattle.sdv_block.proofs.Addresses.{order_flags}
use Rattle.sdv_block.proofs.CardSteps.{Spares, send_keeps, send_same}
use Rattle.sdv_block.proofs.Parts.{Halts, halts_in_fault, either, argument_at, command_at, Sent, send_part, Past}
use Rattle.sdv_block.proofs.Quiet.{Quiet, HaltedQuiet, halted_later, halted_here}
use Rattle.sdv_block.proofs.UserArea.{send_user}

-- the command was answered, and the guards hold of the answer
pub record Asked (k : Kind) (command : ScriptCommand) (guards : List Guard) (c : Card) (h : Host) (front : List Pair) (u : Card) (h' : Host) : Type 0 where
  pub quiet : Quiet c h front u h'
  pub position : ℕ
  pub sent_at : position_of_command h command.address ≡ Some position
  pub answer : Answer
  pub passed : all_pass k guards (Answered answer) ≡ true
  pub allowed : IsAllowed (command_at k command h position) c
  pub sends : Sends command.ask (argument_at k command h position) c answer u

module _ (k : Kind) (e : Ending) (command : ScriptCommand) (ways : Ways) (other : Spares command.ask.index) (fell broke : Rest) (h : Host) (es : List Pair)
    (c last : Card) where
  -- the pair of the command, and what the host is after it
  abbrev pub asked : Sent k e command ways fell broke h es c last → Pair
  asked s = (command_at k command h s.position, Answered s.answer)

  abbrev pub host : Sent k e command ways fell broke h es c last → Host
  host s = host_after k (command_at k command h s.position) (Answered s.answer) h

  pub quiet_command : (s : Sent k e command ways fell broke h es c last) → Quiet c h (asked s ∷ []) s.after (host s)
  quiet_command s = record {
    same = send_same command.ask (argument_at k command h s.position) c s.after s.answer s.sends;
    contents = send_keeps command.ask (argument_at k command h s.position) c s.after s.answer other.no_erase s.sends;
    user = λ user. send_user command.ask (argument_at k command h s.position) c s.after s.answer other.no_switch s.sends user;
    read = refl;
    gave = refl;
    flags = order_flags (order_of k command.ask) s.answer h;
  }

  -- the script's own fault ends the walk
  pub faulted : (s : Sent k e command ways fell broke h es c last) (name : List ℕ) → bytes_eq name (codes "beyond") ≡ false →
      Stops e Open s.rest ⊎ Stops e (Failed name) s.rest → HaltedQuiet e es c last
  faulted s name early f =
      halted_later e es (asked s ∷ []) s.rest c s.after last h (host s) s.same (quiet_command s)
      (halted_here e s.rest s.after last (halts_in_fault e name s.rest early f) s.steps)

module _ (k : Kind) (e : Ending) (command : ScriptCommand) (guards : List Guard) (name : List ℕ) (other : Spares command.ask.index)
    (early : bytes_eq name (codes "beyond") ≡ false)
    (fell broke : Rest) (h : Host) (es : List Pair) (c last : Card) where
  abbrev SentIt : Type 0
  SentIt = Sent k e command (only_if guards name) fell broke h es c last

  abbrev after : SentIt → Host
  after s = host k e command (only_if guards name) other fell broke h es c last s

  abbrev pass : SentIt → Bool
  pass s = all_pass k guards (Answered s.answer)

  abbrev Outcome : Type 0
  Outcome = HaltedQuiet e es c last ⊎ Past (Asked k command guards c h) fell es last

  abbrev Faulted : SentIt → Type 0
  Faulted s = Stops e Open s.rest ⊎ Stops e (Failed name) s.rest

  answered : (s : SentIt) → ((pass s ≡ true) × fell (after s) s.rest) ⊎ ((pass s ≡ false) × Faulted s) → Outcome
  answered s (inr x) = inl (faulted k e command (only_if guards name) other fell broke h es c last s name early x.1)
  answered s (inl x) = inr (record {
    front = asked k e command (only_if guards name) other fell broke h es c last s ∷ [];
    rest = s.rest;
    card = s.after;
    host = after s;
    split = s.same;
    did = record {
      quiet = quiet_command k e command (only_if guards name) other fell broke h es c last s;
      position = s.position;
      sent_at = s.sent_at;
      answer = s.answer;
      passed = x.0;
      allowed = s.allowed;
      sends = s.sends;
    };
    on = x.1;
    steps = s.steps;
  })

  of_sent : Halts e es ⊎ SentIt → AllowedSteps c es last → Outcome
  of_sent (inl halt) steps = inl (halted_here e es c last halt steps)
  of_sent (inr s) steps = answered s (either (fell (after s) s.rest) (Faulted s) (pass s) s.on)

  pub asked_part : walk_statement k e (send command (only_if guards name)) fell broke h es → AllowedSteps c es last → Outcome
  asked_part walk steps = of_sent (send_part k e command (only_if guards name) fell broke h es c last walk steps) steps
