-- The parts of a walk beside a card: at each statement it halts, or its event is a legal step and it goes on.
use Rattle.std.proofs.Common.{◌≡◌, ℕ, inl, inr, refl, sym, ap, ◌∙◌, subst, Bool, true, false, List, [], ◌∷◌, ◌++◌, Option, Some, None, append_assoc}
use Rattle.std.specs.Prelude.{◌⊎◌}
use Rattle.sdv_registers.specs.declared.kind.Kind.{Kind}
use Rattle.sdv_card.specs.declared.guard.Guard.TheVariants.{Ok as WentWell}
use Rattle.sdv_card.specs.declared.answer.Answer.{Answer}
use Rattle.sdv_card.specs.Card.{Card}
use Rattle.sdv_card.specs.CommandTable.{argument_of}
use Rattle.sdv_card.specs.Guards.{passes}
use Rattle.sdv_card.specs.Host.{Host, host_after}
use Rattle.sdv_card.specs.ScriptEvent.{ScriptEvent, SendCommand, Return, Answered}
use Rattle.sdv_card.specs.Step.{Step, Sends}
use Rattle.sdv_graph.specs.declared.tree.ScriptCommand.{ScriptCommand}
use Rattle.sdv_graph.specs.declared.tree.Phase.{Phase}
use Rattle.sdv_graph.specs.AddressSent.{position_of_command, address_of_command}
use Rattle.sdv_graph.specs.Tree.{Statements, Ways, send, phase}
use Rattle.sdv_graph.specs.Walk.{Pair, Ending, Open, Failed, number_fault, Rest, Stops, Either, InRange, Deed, exactly, IsDeed, command_deed, phase_deed, Acts, walk_statements, walk_ways, walk_statement}
use Rattle.sdv_facts.specs.Beside.{StepsOf, IsAllowed}
use Rattle.sdv_block.specs.Served.{AllowedSteps, IsEarly}

-- ALLOWED STEPS

abbrev pub EachAllowed : List Pair → Card → Type 0
EachAllowed es c = (front : List Pair) (event : ScriptEvent) (returned : Return) (back : List Pair) (u : Card) →
    es ≡ front ++ (event, returned) ∷ back → StepsOf c front u → IsAllowed event u

pub allowed_steps : (es : List Pair) (c last : Card) → StepsOf c es last → EachAllowed es c → AllowedSteps c es last
allowed_steps [] c last s a = s
allowed_steps (p ∷ es) c last s a = (
  s.0,
  a [] p.0 p.1 es c refl refl,
  s.1,
  allowed_steps es s.0 last s.2
      (λ front event returned back u is steps. a (p ∷ front) event returned back u (ap (λ (es : List Pair). p ∷ es) is) (s.0, s.1, steps)),
)

-- HALTS: nothing more happened, and the walk is open or ended in a fault

pub record Halts (e : Ending) (es : List Pair) : Type 0 where
  pub none : es ≡ []
  pub early : IsEarly e

pub halts : (e last : Ending) (es : List Pair) → IsEarly last → Stops e last es → Halts e es
halts e last es early s = record { none = s.0; early = subst (λ v. IsEarly v) (sym s.1) early }

pub halts_in_fault : (e : Ending) (name : List ℕ) (es : List Pair) → IsEarly (Failed name) → Stops e Open es ⊎ Stops e (Failed name) es → Halts e es
halts_in_fault e name es early (inl s) = halts e Open es tt s
halts_in_fault e name es early (inr s) = halts e (Failed name) es early s

pub either : (A B : Type 0) (b : Bool) → Either b A B → ((b ≡ true) × A) ⊎ ((b ≡ false) × B)
either A B true x = inl (refl, x)
either A B false x = inr (refl, x)

-- AN EVENT of a walk

pub record Acted (k : Kind) (deed : Deed) (h : Host) (next : Return → Rest) (es : List Pair) (c last : Card) : Type 0 where
  pub event : ScriptEvent
  pub returned : Return
  pub rest : List Pair
  pub after : Card
  pub is : IsDeed deed event
  pub same : es ≡ (event, returned) ∷ rest
  pub allowed : IsAllowed event c
  pub step : Step event c returned after
  pub on : next returned (host_after k event returned h) rest
  pub steps : AllowedSteps after rest last

pub acted : (k : Kind) (deed : Deed) (h : Host) (next : Return → Rest) (es : List Pair) (c last : Card) → Acts k deed h next es → AllowedSteps c es last →
    Acted k deed h next es c last
acted k deed h next es c last (event, returned, rest, is, may, same, on) steps =
    let s : AllowedSteps c ((event, returned) ∷ rest) last = subst (λ es. AllowedSteps c es last) same steps in
    record { event = event; returned = returned; rest = rest; after = s.0; is = is; same = same; allowed = s.1; step = s.2; on = on; steps = s.3 }

-- the one event that a statement makes
pub record Made (k : Kind) (wanted : ScriptEvent) (h : Host) (next : Return → Rest) (es : List Pair) (c last : Card) : Type 0 where
  pub returned : Return
  pub rest : List Pair
  pub after : Card
  pub same : es ≡ (wanted, returned) ∷ rest
  pub allowed : IsAllowed wanted c
  pub step : Step wanted c returned after
  pub on : next returned (host_after k wanted returned h) rest
  pub steps : AllowedSteps after rest last

pub made : (k : Kind) (wanted : ScriptEvent) (h : Host) (next : Return → Rest) (es : List Pair) (c last : Card) → Acted k (exactly wanted) h next es c last →
    Made k wanted h next es c last
made k wanted h next es c last a = record {
  returned = a.returned;
  rest = a.rest;
  after = a.after;
  same = a.same ∙ ap (λ (v : ScriptEvent). (v, a.returned) ∷ a.rest) a.is;
  allowed = subst (λ v. IsAllowed v c) a.is a.allowed;
  step = subst (λ v. Step v c a.returned a.after) a.is a.step;
  on = subst (λ v. next a.returned (host_after k v a.returned h) a.rest) a.is a.on;
  steps = a.steps;
}

-- A COMMAND

-- its argument and its event, at a position
abbrev pub argument_at : Kind → ScriptCommand → Host → (position : ℕ) → ℕ
argument_at k command h position = argument_of k command.ask h.rca (address_of_command h command.address position)

abbrev pub command_at : Kind → ScriptCommand → Host → (position : ℕ) → ScriptEvent
command_at k command h position = SendCommand command.ask position (argument_at k command h position)

pub record Sent (k : Kind) (e : Ending) (command : ScriptCommand) (ways : Ways) (fell broke : Rest) (h : Host) (es : List Pair) (c last : Card) : Type 0 where
  pub position : ℕ
  pub sent_at : position_of_command h command.address ≡ Some position
  pub answer : Answer
  pub rest : List Pair
  pub after : Card
  pub same : es ≡ (command_at k command h position, Answered answer) ∷ rest
  pub allowed : IsAllowed (command_at k command h position) c
  pub sends : Sends command.ask (argument_at k command h position) c answer after
  pub on : walk_ways k e ways (Answered answer) fell broke (host_after k (command_at k command h position) (Answered answer) h) rest
  pub steps : AllowedSteps after rest last

of_made : (k : Kind) (e : Ending) (command : ScriptCommand) (ways : Ways) (fell broke : Rest) (h : Host) (es : List Pair) (c last : Card) (position : ℕ) →
    position_of_command h command.address ≡ Some position →
    (returned : Return) (rest : List Pair) (after : Card) → es ≡ (command_at k command h position, returned) ∷ rest →
    IsAllowed (command_at k command h position) c →
    Step (command_at k command h position) c returned after →
    walk_ways k e ways returned fell broke (host_after k (command_at k command h position) returned h) rest →
    AllowedSteps after rest last → Sent k e command ways fell broke h es c last
of_made k e command ways fell broke h es c last position sent_at (Answered answer) rest after same allowed step on steps =
    record {
      position = position;
      sent_at = sent_at;
      answer = answer;
      rest = rest;
      after = after;
      same = same;
      allowed = allowed;
      sends = step;
      on = on;
      steps =
          steps;
    }
of_made k e command ways fell broke h es c last position sent_at returned rest after same allowed step on steps = absurd step

abbrev after_answer : Kind → Ending → Ways → (fell broke : Rest) → Return → Rest
after_answer k e ways fell broke returned = walk_ways k e ways returned fell broke

send_in_range : (k : Kind) (e : Ending) (command : ScriptCommand) (ways : Ways) (fell broke : Rest) (h : Host) (es : List Pair) (c last : Card) →
    AllowedSteps c es last →
    (o : Option ℕ) → position_of_command h command.address ≡ o →
    InRange e o (λ position. Acts k (command_deed k command h position) h (after_answer k e ways fell broke) es) es →
    Halts e es ⊎ Sent k e command ways fell broke h es c last
send_in_range k e command ways fell broke h es c last steps None is s = inl (halts e number_fault es refl s)
send_in_range k e command ways fell broke h es c last steps (Some position) is a =
    let next : Return → Rest = after_answer k e ways fell broke in
    let m = made k (command_at k command h position) h next es c last (acted k (command_deed k command h position) h next es c last a steps) in
    inr (of_made k e command ways fell broke h es c last position is m.returned m.rest m.after m.same m.allowed m.step m.on m.steps)

pub send_part : (k : Kind) (e : Ending) (command : ScriptCommand) (ways : Ways) (fell broke : Rest) (h : Host) (es : List Pair) (c last : Card) →
    walk_statement k e (send command ways) fell broke h es → AllowedSteps c es last → Halts e es ⊎ Sent k e command ways fell broke h es c last
send_part k e command ways fell broke h es c last (inl s) steps = inl (halts e Open es tt s)
send_part k e command ways fell broke h es c last (inr w) steps =
    send_in_range k e command ways fell broke h es c last steps (position_of_command h command.address) refl w

-- A PHASE OR A WAIT

abbrev pub after_phase : Kind → Ending → (well other : Statements) → (fell broke : Rest) → Return → Rest
after_phase k e well other fell broke returned h es =
    Either (passes k WentWell returned) (walk_statements k e well fell broke h es) (walk_statements k e other fell broke h es)

pub phase_part : (k : Kind) (e : Ending) (p : Phase) (well other : Statements) (fell broke : Rest) (h : Host) (es : List Pair) (c last : Card) →
    walk_statement k e (phase p well other) fell broke h es → AllowedSteps c es last →
    Halts e es ⊎ Acted k (phase_deed p h) h (after_phase k e well other fell broke) es c last
phase_part k e p well other fell broke h es c last (inl s) steps = inl (halts e Open es tt s)
phase_part k e p well other fell broke h es c last (inr a) steps = inr (acted k (phase_deed p h) h (after_phase k e well other fell broke) es c last a steps)

-- PAST A PART: what it did, and what comes after it

pub record Past (P : List Pair → Card → Host → Type 0) (next : Rest) (es : List Pair) (last : Card) : Type 0 where
  pub front : List Pair
  pub rest : List Pair
  pub card : Card
  pub host : Host
  pub split : es ≡ front ++ rest
  pub did : P front card host
  pub on : next host rest
  pub steps : AllowedSteps card rest last

-- one part after another
unfoldable pub past_both : {P Q R : List Pair → Card → Host → Type 0} (next after : Rest) (es : List Pair) (last : Card) → (w : Past P next es last) →
    (r : Past Q after w.rest last) →
    R (w.front ++ r.front) r.card r.host → Past R after es last
past_both next after es last w r did = record {
  front = w.front ++ r.front;
  rest = r.rest;
  card = r.card;
  host = r.host;
  split = w.split ∙ (ap (λ (es : List Pair). w.front ++ es) r.split ∙ sym (append_assoc w.front r.front r.rest));
  did = did;
  on = r.on;
  steps = r.steps;
}

-- a part of nothing
pub past_here : {P : List Pair → Card → Host → Type 0} (next : Rest) (h : Host) (es : List Pair) (c last : Card) → next h es → AllowedSteps c es last →
    P [] c h → Past P next es last
past_here next h es c last on steps did = record { front = []; rest = es; card = c; host = h; split = refl; did = did; on = on; steps = steps }
