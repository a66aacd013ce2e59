-- A player over a port: each event that it says is made there, by one call, and it is told what that returned.
use Rattle.std.specs.Prelude.{◌≡◌, ◌++◌, ℕ, List, [], ◌∷◌, false, Option, Result, Ok, Err}
use Rattle.sdv_registers.specs.declared.kind.Kind.{Kind}
use Rattle.sdv_card.specs.Card.{Card, Block}
use Rattle.sdv_graph.specs.Walk.{Pair, Ending, given}
use Rattle.sdv_check.specs.Verified.{Acceptance, IsAccepted}
use Rattle.sdv_run.specs.declared.fault.RunFault.{RunFault}
use Rattle.sdv_run.specs.declared.fault.RunFault.TheVariants.{Reply, Input, Memory}
use Rattle.sdv_run.specs.declared.next_event.NextEvent.{NextEvent}
use Rattle.sdv_run.specs.declared.returned.Returned.{Returned}
use Rattle.sdv_run.specs.Asks.{deed_of, CanPerform}
use Rattle.sdv_run.specs.Performs.{Source, IsShort}
use Rattle.sdv_run.specs.Run.{Steps, RunMoved}
use Rattle.sdv_run.specs.OnCard.{ShowsStart, OnCard}
use Rattle.sdv_run.specs.Takes.{Told}
use Rattle.sdv_table.specs.Fits.{IsTable}
use Rattle.sdv_player.specs.declared.next_step.Next.{Next}
use Rattle.sdv_player.specs.declared.next_step.Next.TheVariants as nexts
use Rattle.sdv_player.specs.declared.state.State.{State}
use Rattle.sdv_player.specs.Play.{IsStopped, Starts, Takes, as_heard}
use Rattle.sdv_player.specs.Plays.{heard_in, Plays, IsEnding}

-- these events were made at the port, and no others; each that gives blocks took the next ones of the input
pub record Made {S : Type 0} (k : Kind) (steps : Steps S) (es : List Pair) (from to : Source S) : Type 0 where
  pub moved : RunMoved k steps from.0 es to.0
  pub input : from.1 ≡ given es ++ to.1

-- they are what the player said, and heard of what they returned, and then it says this
pub record Played {S : Type 0} (k : Kind) (steps : Steps S) (words : List ℕ) (s s' : State) (from to : Source S)
    (said : Next) : Type 0 where
  pub events : List Pair
  pub made : Made k steps events from to
  pub plays : Plays words s (heard_in events) s' said

-- it says an event that was not made
pub record NotMade {S : Type 0} (k : Kind) (steps : Steps S) (words : List ℕ) (s s' : State) (from to : Source S)
    (why : NextEvent → Type 0) : Type 0 where
  pub event : NextEvent
  pub because : why event
  pub played : Played k steps words s s' from to (nexts.Event event)

-- the last event returned what the player does not go on with: it is stopped
pub record WasRefused {S : Type 0} (k : Kind) (steps : Steps S) (words : List ℕ) (s s' : State)
    (from to : Source S) : Type 0 where
  pub events : List Pair
  pub last : Pair
  pub made : Made k steps (events ++ last ∷ []) from to
  pub here : State
  pub event : NextEvent
  pub plays : Plays words s (heard_in events) here (nexts.Event event)
  pub returned : Returned
  pub held : List Block
  pub told : Told (deed_of event) returned held last.0 last.1
  pub refused : Takes words here s' (as_heard returned) false
  pub stopped : IsStopped s'

abbrev pub PlaysOver : {S : Type 0} → Kind → Steps S → List ℕ → (room : ℕ) → (s s' : State) → (from to : Source S) →
    Result Next RunFault → Type 0
PlaysOver k steps words room s s' from to (Ok said) = Played k steps words s s' from to said
PlaysOver k steps words room s s' from to (Err Reply) = WasRefused k steps words s s' from to
PlaysOver k steps words room s s' from to (Err Input) =
    NotMade k steps words s s' from to (λ event. IsShort event to.1)
PlaysOver k steps words room s s' from to (Err Memory) =
    NotMade k steps words s s' from to (λ event. CanPerform event room → ⊥)
PlaysOver k steps words room s s' from to (Err fault) = ⊥

-- BESIDE THE CARD that the port shows, by the table of an accepted script: the events, as the player heard them, moved the card,
-- step by step, each legal and in bounds, no more commands than were certified; in `done` the card is in the transfer
-- state. The player does not stop, and no answer is refused.

-- it says this, and this is the end
pub record PlayedBeside {S : Type 0} (card : S → Option Card) (most : ℕ) (es : List Pair) (said : Next) (c : Card)
    (to : S) : Type 0 where
  pub last : Ending
  pub how : IsEnding said last
  pub on : OnCard card most last es c to
  pub sends : said ≡ nexts.Stopped → ⊥

abbrev pub BesideCard : {S : Type 0} → Kind → Steps S → (S → Option Card) → (most : ℕ) → List ℕ → (room : ℕ) →
    (s s' : State) → (from to : Source S) → Card → Result Next RunFault → Type 0
BesideCard k steps card most words room s s' from to c (Ok said) =
    (played : Played k steps words s s' from to said) × PlayedBeside card most (heard_in played.events) said c to.0
BesideCard k steps card most words room s s' from to c (Err Reply) = ⊥
BesideCard k steps card most words room s s' from to c (Err Input) =
    (cut : NotMade k steps words s s' from to (λ event. IsShort event to.1))
    × PlayedBeside card most (heard_in cut.played.events) (nexts.Event cut.event) c to.0
BesideCard k steps card most words room s s' from to c (Err Memory) =
    (cut : NotMade k steps words s s' from to (λ event. CanPerform event room → ⊥))
    × PlayedBeside card most (heard_in cut.played.events) (nexts.Event cut.event) c to.0
BesideCard k steps card most words room s s' from to c (Err fault) = ⊥

abbrev pub PlaysBeside : {S : Type 0} → Kind → Steps S → (S → Option Card) → List ℕ → (room : ℕ) → (s s' : State) →
    (from to : Source S) → Result Next RunFault → Type 0
PlaysBeside k steps card words room s s' from to result =
    (script certificate : List ℕ) (a : Acceptance) (c : Card) → IsAccepted script certificate a
    → IsTable a.graph a.bound words → Starts words s → ShowsStart card a.graph.kind a.graph.begins from.0 c
    → BesideCard k steps card a.bound words room s s' from to c result
