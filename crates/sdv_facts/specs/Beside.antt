-- A RUN: a walk of a script whose events are steps of one card. What is asked of every run of an accepted script.
-- A card is one of the profile, before its first command, or in any state where the script begins with CMD0; which steps
-- it takes is open.
use Rattle.std.specs.Prelude.{◌≡◌, ◌+◌, ◌≤◌, ◌⊎◌, Bool, true, ℕ, List, [], ◌∷◌, ◌++◌, length}
use Rattle.sdv_registers.specs.declared.kind.Kind.{Kind}
use Rattle.sdv_card.specs.declared.state.State.TheVariants.{Tran}
use Rattle.sdv_card.specs.Card.{Card}
use Rattle.sdv_card.specs.Legal.{EventLegal, InBounds}
use Rattle.sdv_card.specs.Profile.{IsOfProfile, IsAtStart}
use Rattle.sdv_card.specs.ScriptEvent.{ScriptEvent, SendCommand, Return}
use Rattle.sdv_card.specs.Step.{Step}
use Rattle.sdv_graph.specs.Walk.{Pair, Ending, Finished, Failed, Open}

-- the events with what they returned are, in order, steps of one card
abbrev pub StepsOf : Card → List Pair → (last : Card) → Type 0
StepsOf c [] last = c ≡ last
StepsOf c (p ∷ es) last = (u : Card) × Step p.0 c p.1 u × StepsOf u es last

-- each command counts, whether it arrives or not; phases and waits do not
abbrev pub commands_in : ScriptEvent → ℕ
commands_in (SendCommand ask position argument) = 1
commands_in event = 0

abbrev pub commands : List Pair → ℕ
commands [] = 0
commands (p ∷ es) = commands_in p.0 + commands es

-- the event is legal in the card's state, and addresses only blocks that the card has, in its own unit
pub record IsAllowed (event : ScriptEvent) (c : Card) : Type 0 where
  pub legal : EventLegal event c
  pub bounds : InBounds event c

-- how walks may end, and with which events: those of a script's text, say
abbrev pub Walks : Type 1
Walks = Ending → List Pair → Type 0

-- a run that is over ended in `done` or in a fault
abbrev pub IsOver : Ending → Type 0
IsOver Finished = Unit {0}
IsOver (Failed name) = Unit {0}
IsOver e = ⊥

-- in `done` with the card in the transfer state, in a fault, or not yet
abbrev pub EndsWell : Ending → Card → Type 0
EndsWell Finished c = c.state ≡ Tran
EndsWell (Failed name) c = Unit {0}
EndsWell Open c = Unit {0}
EndsWell e c = ⊥

-- A walk beside a card.
pub record IsGood (most : ℕ) (e : Ending) (es : List Pair) (c : Card) : Type 0 where
  -- wherever the card is when an event comes, the event is allowed there
  pub allowed : (front : List Pair) (event : ScriptEvent) (returned : Return) (back : List Pair) (u : Card) →
      es ≡ front ++ (event, returned) ∷ back → StepsOf c front u → IsAllowed event u
  -- no more commands are sent than this
  pub sent : (last : Card) → StepsOf c es last → commands es ≤ most
  pub ends : (last : Card) → StepsOf c es last → EndsWell e last

-- An open run is the beginning of one that is over.
pub record GoesOn (walks : Walks) (es : List Pair) (c : Card) : Type 0 where
  pub end : Ending
  pub over : IsOver end
  pub more : List Pair
  pub last : Card
  pub steps : StepsOf c more last
  pub walk : walks end (es ++ more)

-- Every run ends: none has more events than this, whatever they return.
abbrev pub RunsEnd : Walks → (events : ℕ) → Type 0
RunsEnd walks events = (e : Ending) (es : List Pair) → walks e es → length es ≤ events

-- Every run beside any card of the kind is as it should be.
pub record RunsWell (k : Kind) (walks : Walks) (most : ℕ) : Type 0 where
  pub good : (c : Card) → k ≡ c.kind → IsAtStart c → (e : Ending) (es : List Pair) → walks e es → IsGood most e es c
  pub goes_on : (c : Card) → k ≡ c.kind → IsAtStart c → (es : List Pair) (last : Card) → walks Open es
      → StepsOf c es last → GoesOn walks es last

-- So it is beside any card of the kind and of the profile, whatever its state.
pub record RunsWellAnywhere (k : Kind) (walks : Walks) (most : ℕ) : Type 0 where
  pub good : (c : Card) → k ≡ c.kind → IsOfProfile c → (e : Ending) (es : List Pair) → walks e es → IsGood most e es c
  pub goes_on : (c : Card) → k ≡ c.kind → IsOfProfile c → (es : List Pair) (last : Card) → walks Open es
      → StepsOf c es last → GoesOn walks es last

-- A run may start beside a card before its first command, and beside one in any state where its script begins with CMD0.
abbrev pub MayStart : (begins : Bool) → Card → Type 0
MayStart begins c = IsAtStart c ⊎ ((begins ≡ true) × IsOfProfile c)
