-- A player that is asked and told, one event after another, whatever the events return.
use Rattle.std.specs.Prelude.{◌≡◌, ◌+◌, ◌≤◌, ℕ, List, [], ◌∷◌, ◌++◌, length, map, true, false}
use Rattle.sdv_card.specs.declared.answer.Answer.{Answer}
use Rattle.sdv_card.specs.declared.event.Ask.{Ask}
use Rattle.sdv_card.specs.Card.{Card, Block}
use Rattle.sdv_card.specs.Damage.{counts_as}
use Rattle.sdv_card.specs.ScriptEvent.{ScriptEvent, SendCommand, GiveBlocks, Return, Answered}
use Rattle.sdv_card.specs.Step.{Step}
use Rattle.sdv_graph.specs.Walk.{Pair, Ending, Open, Deed, IsDeed, exactly, giving}
use Rattle.sdv_graph.specs.Graph.{Graph}
use Rattle.sdv_graph.specs.GraphOf.{IsSound}
use Rattle.sdv_facts.specs.Beside.{StepsOf, IsAllowed, commands, commands_in, IsOver, EndsWell, IsGood, MayStart}
use Rattle.sdv_check.specs.Verified.{Acceptance, IsAccepted}
use Rattle.sdv_run.specs.declared.next_event.NextEvent.{NextEvent}
use Rattle.sdv_run.specs.declared.next_event.NextEvent.TheVariants as events
use Rattle.sdv_run.specs.declared.returned.Returned.{Returned}
use Rattle.sdv_run.specs.declared.returned.Returned.TheVariants as told
use Rattle.sdv_run.specs.Asks.{deed_of, IsTooWide}
use Rattle.sdv_run.specs.Takes.{Told}
use Rattle.sdv_run.specs.Ran.{IsWalk}
use Rattle.sdv_table.specs.Fits.{IsTable}
use Rattle.sdv_player.specs.declared.next_step.Next.{Next}
use Rattle.sdv_player.specs.declared.next_step.Next.TheVariants as nexts
use Rattle.sdv_player.specs.declared.state.State.{State}
use Rattle.sdv_player.specs.Passing.{EndsAs}
use Rattle.sdv_player.specs.Play.{Starts, Advances, Keeps, Stops, Takes, TakesOff, moves_said, commands_said}

-- THE CALLS, each as its contract says

-- the events, each with what the player heard of what it returned: a damaged answer counts as a lost one
abbrev pub heard_in : List Pair → List Pair
heard_in es = map (λ p. (p.0, counts_as p.1)) es

-- it said an event, and heard what that returned
abbrev pub TellsOne : List ℕ → (here next : State) → Next → Pair → Type 0
TellsOne words here next (nexts.Event event) p =
    (returned : Returned) × (held : List Block) × Told (deed_of event) returned held p.0 p.1
    × Takes words here next returned true × TakesOff here next returned
TellsOne words here next end p = ⊥

-- it was asked, and heard what these events returned, in turn; asked once more, it said this
abbrev pub Plays : List ℕ → State → List Pair → State → Next → Type 0
Plays words s [] s' said = Advances words s s' said × Keeps s s' said × Stops s s' said
Plays words s (p ∷ ps) s' said =
    (here next : State) × (event : Next) × Advances words s here event × Keeps s here event × Stops s here event
    × TellsOne words here next event p × Plays words next ps s' said

-- from the start
abbrev pub PlaysFromStart : List ℕ → List Pair → State → Next → Type 0
PlaysFromStart words es s' said = (s : State) × Starts words s × Plays words s es s' said

-- WHAT THEY ARE

-- how a run has ended where this is said; where an event is said, and where the player stops, it has not
abbrev pub IsEnding : Next → Ending → Type 0
IsEnding (nexts.Event event) last = last ≡ Open
IsEnding nexts.Stopped last = last ≡ Open
IsEnding end last = EndsAs end last

-- Whatever the words, the state and the answers are, no more commands are asked for than the state has left, and no more events
-- than it has moves left: those that returned are taken off, and one is left for the event that was said last.
pub record AreCounted (s s' : State) (es : List Pair) (said : Next) : Type 0 where
  pub left : commands es + s'.commands ≡ s.commands
  pub asked : commands es + commands_said said ≤ s.commands
  pub events : length es + moves_said said ≤ s.moves

abbrev pub PlaysAreCounted : Type 0
PlaysAreCounted =
    (words : List ℕ) (es : List Pair) (s s' : State) (said : Next) → Plays words s es s' said → AreCounted s s' es said

-- The events, each with what was heard of it, are a path of the graph, and so a walk of its script, which ends so. No more commands
-- were asked for than this, the one counted that was said last.
pub record IsRun (g : Graph) (most : ℕ) (es : List Pair) (said : Next) : Type 0 where
  pub last : Ending
  pub how : IsEnding said last
  pub walk : IsWalk g last es
  pub asked : commands es + commands_said said ≤ most

abbrev pub PlaysAreWalks : Type 0
PlaysAreWalks =
    (g : Graph) (most : ℕ) (words : List ℕ) (es : List Pair) (s : State) (said : Next) → IsTable g most words
    → IsSound g → PlaysFromStart words es s said → IsRun g most es said

-- BESIDE A CARD whose steps these are, by the table of an accepted script: each event is legal and in bounds, at most
-- the certified number of commands is sent, and the run ends in `done` only with the card in the transfer state. The same
-- holds of the event that is said, before anything is told of it. The player does not stop: it can send each command, none is
-- one more than the table says, and it takes what the card answers.
pub record IsGoodRun (words : List ℕ) (most : ℕ) (es : List Pair) (s : State) (said : Next) (c last : Card) :
    Type 0 where
  pub end : Ending
  pub how : IsEnding said end
  pub good : IsGood most end es c
  pub sent : commands es ≤ most
  -- whichever blocks a phase to the card gives
  pub next : (event : NextEvent) (made : ScriptEvent) → said ≡ nexts.Event event → IsDeed (deed_of event) made →
      IsAllowed made last × (commands es + commands_in made ≤ most)
  pub ends : EndsWell end last
  pub sends : said ≡ nexts.Stopped → ⊥
  pub takes : (ask : Ask) (position argument : ℕ) (answer : Answer) (after : Card) (s' : State) →
      said ≡ nexts.Event (events.Send ask position argument) →
      Step (SendCommand ask position argument) last (Answered answer) after →
      Takes words s s' (told.Answered answer) false → ⊥

abbrev pub PlaysAreGood : Type 0
PlaysAreGood =
    (script certificate : List ℕ) (a : Acceptance) (words : List ℕ) (es : List Pair) (s : State) (said : Next)
    (c last : Card) → IsAccepted script certificate a → IsTable a.graph a.bound words → PlaysFromStart words es s said
    → a.graph.kind ≡ c.kind → MayStart a.graph.begins c → StepsOf c es last → IsGoodRun words a.bound es s said c last

-- LIKE ANY RUN of the script that sends no more commands than the table says: while the events return the same, they are the
-- same, whichever blocks are given; then the player says the run's next event, or the same end. So the player and the runner
-- (`run`, whose events are such a walk too) do the same.
abbrev pub returns_of : List Pair → List Return
returns_of es = map (λ p. p.1) es

-- an event, without the blocks that it gives
abbrev pub deed_by : ScriptEvent → Deed
deed_by (GiveBlocks lines blocks) = giving lines (length blocks)
deed_by event = exactly event

abbrev pub deeds_of : List Pair → List Deed
deeds_of es = map (λ p. deed_by p.0) es

-- it says an event; or it stops, at one that is too wide to be sent
abbrev pub SaysDeed : Deed → Next → Type 0
SaysDeed deed (nexts.Event event) = deed_of event ≡ deed
SaysDeed deed nexts.Stopped = IsTooWide deed
SaysDeed deed end = ⊥

-- it says the first of the events that are left of a run, or its end, where the run is over
abbrev pub SaysRest : List Pair → Ending → Next → Type 0
SaysRest [] end said = IsOver end → IsEnding said end
SaysRest (p ∷ ps) end said = SaysDeed (deed_by p.0) said

pub record IsAlike (most : ℕ) (es fs : List Pair) (end : Ending) (said : Next) : Type 0 where
  pub rest : List Pair
  pub events : deeds_of fs ≡ deeds_of es ++ deeds_of rest
  pub says : commands fs ≤ most → SaysRest rest end said

abbrev pub PlaysAreAlike : Type 0
PlaysAreAlike =
    (g : Graph) (most : ℕ) (words : List ℕ) (es fs : List Pair) (later : List Return) (s : State) (said : Next)
    (end : Ending) → IsTable g most words → IsSound g → PlaysFromStart words es s said → IsWalk g end fs
    → returns_of fs ≡ returns_of es ++ later → IsAlike most es fs end said
