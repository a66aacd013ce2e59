-- A run that STANDS at a point of a graph, where the facts of a certificate hold, and what a step from there promises.
use Rattle.std.specs.Prelude.{◌≡◌, ◌+◌, ◌≤◌, ◌<◌, ℕ, List, [], ◌∷◌, ◌++◌, IsTrue, slice_get, Some}
use Rattle.sdv_registers.specs.declared.kind.Kind.{Kind}
use Rattle.sdv_card.specs.declared.event.Ask.{Ask}
use Rattle.sdv_card.specs.declared.guard.Guard.{Guard}
use Rattle.sdv_card.specs.declared.state.State.TheVariants.{Tran}
use Rattle.sdv_card.specs.Card.{Card}
use Rattle.sdv_card.specs.CommandTable.{order_of}
use Rattle.sdv_card.specs.Host.{Host, host_after}
use Rattle.sdv_card.specs.Laws.{fits_order}
use Rattle.sdv_card.specs.Legal.{TransferOnCard}
use Rattle.sdv_card.specs.Modes.{has_width}
use Rattle.sdv_card.specs.Port.{IsFine}
use Rattle.sdv_card.specs.ScriptEvent.{ScriptEvent, Return}
use Rattle.sdv_card.specs.Shapes.{pair_code}
use Rattle.sdv_card.specs.Step.{Step}
use Rattle.sdv_graph.specs.Graph.{Graph}
use Rattle.sdv_graph.specs.Nested.{InBox}
use Rattle.sdv_graph.specs.Path.{Case, Action, sends, lets, flags, widths, Point, Stand, Move, Goes, Does, Halts, move_from}
use Rattle.sdv_graph.specs.Walk.{Pair, Ending, Finished, IsDeed}
use Rattle.sdv_facts.specs.Facts.{PointFacts}
use Rattle.sdv_facts.specs.Beside.{StepsOf, commands_in}
use Rattle.sdv_facts.specs.Bounds.{bound}
use Rattle.sdv_facts.specs.Closed.{ClosedAt}
use Rattle.sdv_facts.specs.FactsHold.{FactsHold}
use Rattle.sdv_facts.specs.Keeps.{MayStandIn, IsHonest}

-- WHAT A GRAPH'S POINTS KEEP of the rules of scripts

-- each guard says something of the answers to the command
abbrev pub GuardsSuit : Kind → Ask → List Guard → Type 0
GuardsSuit k ask [] = Unit {0}
GuardsSuit k ask (g ∷ gs) = IsTrue (fits_order g (order_of k ask)) × GuardsSuit k ask gs

abbrev pub CasesSuit : Kind → Ask → List Case → Type 0
CasesSuit k ask [] = Unit {0}
CasesSuit k ask (w ∷ ws) = GuardsSuit k ask w.guards × CasesSuit k ask ws

abbrev pub ActionSuits : Kind → Action → Type 0
ActionSuits k (sends c ways other) = CasesSuit k c.ask ways
ActionSuits k (lets l t) = MayStandIn k l.atom
ActionSuits k (flags flag on t) = flag < 4
ActionSuits k (widths width t) = IsTrue (has_width k width)
ActionSuits k action = Unit {0}

abbrev pub EachActionSuits : Graph → Type 0
EachActionSuits g = (i : ℕ) (place : Point) → slice_get g.points i ≡ Some place → ActionSuits g.kind place.action

-- WHERE A RUN STANDS

-- a run stands at a point beside a card, and what the certificate says of the point holds
pub record Stands (g : Graph) (ps : List PointFacts) (s : Stand) (c : Card) : Type 0 where
  pub place : Point
  pub here : slice_get g.points s.point ≡ Some place
  pub facts : PointFacts
  pub known : slice_get ps s.point ≡ Some facts
  pub box : InBox s.turns place.most
  pub holds : FactsHold facts.facts c s.host
  -- what the host knows of the card is true
  pub honest : IsHonest g.kind c s.host
  pub on_card : TransferOnCard c

-- it came there, with so many commands sent on the way, and the bound has fallen by them
pub record Arrived (g : Graph) (ps : List PointFacts) (most sent : ℕ) (s : Stand) (c : Card) : Type 0 where
  pub stands : Stands g ps s c
  pub falls : bound stands.facts s.turns + sent ≤ most

-- `done` is reached in the transfer state
abbrev pub HaltsWell : Ending → Card → Type 0
HaltsWell Finished c = c.state ≡ Tran
HaltsWell e c = Unit {0}

-- What is so of a move from there: each event that it makes is legal and in bounds, and after each step of the card the
-- facts of the target hold, what the host knows is true, and the bound has fallen.
abbrev pub MovesWell : Graph → List PointFacts → (most : ℕ) → Move → Card → Type 0
MovesWell g ps most (Goes next) c = Arrived g ps most 0 next c
MovesWell g ps most (Does deed h next) c =
    (event : ScriptEvent) → IsDeed deed event → IsFine g.kind event c h
    × ((returned : Return) (u : Card) → Step event c returned u
    → Arrived g ps most (commands_in event) (next returned (host_after g.kind event returned h)) u)
MovesWell g ps most (Halts e) c = HaltsWell e c

-- an event that a host makes, legal and in bounds, where what the host knows of the card is true
pub record IsMade (k : Kind) (event : ScriptEvent) (c : Card) : Type 0 where
  pub host : Host
  pub fine : IsFine k event c host
  pub honest : IsHonest k c host

-- so is each event of a run, wherever the card is then
abbrev pub EachIsMade : Kind → List Pair → Card → Type 0
EachIsMade k es c =
    (front : List Pair) (event : ScriptEvent) (returned : Return) (back : List Pair) (u : Card) →
    es ≡ front ++ (event, returned) ∷ back → StepsOf c front u → IsMade k event u

-- an invariant of where a run stands beside the card is kept by a move
abbrev pub IsKeptBy : (Stand → Card → Type 0) → Kind → Move → Card → Type 0
IsKeptBy Inv k (Goes next) c = Inv next c
IsKeptBy Inv k (Does deed h next) c = (event : ScriptEvent) → IsDeed deed event → (returned : Return) (u : Card) →
    Step event c returned u → Inv (next returned (host_after k event returned h)) u
IsKeptBy Inv k (Halts e) c = Unit {0}

-- where an invariant holds, each move is as it should be, and keeps it
abbrev pub StepsWellWhere : (Stand → Card → Type 0) → Graph → List PointFacts → Type 0
StepsWellWhere Inv g ps = (s : Stand) (c : Card) (at : Stands g ps s c) → Inv s c →
    MovesWell g ps (bound at.facts s.turns) (move_from g.kind g.points s) c
    × IsKeptBy Inv g.kind (move_from g.kind g.points s) c

-- so it is wherever the clauses of a point hold of cards of this shape, whatever the certificate says of others and of
-- other points
abbrev pub PointsStepWell : Graph → List PointFacts → Type 0
PointsStepWell g ps = (s : Stand) (c : Card) (at : Stands g ps s c) →
    ClosedAt g.kind ps at.place at.facts (record { 0 = pair_code c s.host }) →
    MovesWell g ps (bound at.facts s.turns) (move_from g.kind g.points s) c

-- and so at each point of a graph for which the certificate is closed
abbrev pub StepsWell : Graph → List PointFacts → Type 0
StepsWell g ps = (s : Stand) (c : Card) (at : Stands g ps s c)
    → MovesWell g ps (bound at.facts s.turns) (move_from g.kind g.points s) c
