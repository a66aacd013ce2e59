-- When a RUN COMES TO A POINT: beside a card, with these events, and with the card and the host as they then are.
use Rattle.std.specs.Prelude.{◌≡◌, ℕ, zero, suc, ◌⊎◌, List, [], ◌∷◌}
use Rattle.sdv_registers.specs.declared.kind.Kind.{Kind}
use Rattle.sdv_card.specs.Card.{Card}
use Rattle.sdv_card.specs.Host.{Host, host_after}
use Rattle.sdv_card.specs.Profile.{IsAtStart}
use Rattle.sdv_card.specs.ScriptEvent.{ScriptEvent, Return, MayReturn}
use Rattle.sdv_card.specs.Step.{Step}
use Rattle.sdv_graph.specs.Graph.{Graph, begin}
use Rattle.sdv_graph.specs.Path.{Point, Stand, Move, Goes, Does, Halts, move_from}
use Rattle.sdv_graph.specs.Walk.{Pair, Deed, IsDeed}

-- the run stands here, and nothing has happened since
pub record IsHere (s : Stand) (c : Card) (es : List Pair) (t : Stand) (u : Card) : Type 0 where
  pub none : es ≡ []
  pub stand : s ≡ t
  pub card : c ≡ u

-- an event that is a step of the card, and what comes after it
pub record Acted (k : Kind) (deed : Deed) (h : Host) (next : Return → Host → Stand)
    (go : Stand → Card → List Pair → Type 0) (c : Card) (es : List Pair) : Type 0 where
  pub event : ScriptEvent
  pub returned : Return
  pub rest : List Pair
  pub after : Card
  pub is : IsDeed deed event
  pub may : MayReturn event returned
  pub step : Step event c returned after
  pub same : es ≡ (event, returned) ∷ rest
  pub on : go (next returned (host_after k event returned h)) after rest

-- after a move, with what is asked of where it leads
abbrev pub Onward : Kind → (Stand → Card → List Pair → Type 0) → Move → Card → List Pair → Type 0
Onward k go (Goes next) c es = go next c es
Onward k go (Does deed h next) c es = Acted k deed h next go c es
Onward k go (Halts last) c es = ⊥

-- within n moves
abbrev pub ComesWithin : Kind → List Point → ℕ → (t : Stand) (u : Card) → (s : Stand) → Card → List Pair → Type 0
ComesWithin k g zero t u s c es = IsHere s c es t u
ComesWithin k g (suc n) t u s c es =
    IsHere s c es t u ⊎ Onward k (ComesWithin k g n t u) (move_from k g s) c es

-- A run of the graph that begins beside this card comes there.
pub record Comes (g : Graph) (c : Card) (es : List Pair) (t : Stand) (u : Card) : Type 0 where
  pub kind : g.kind ≡ c.kind
  pub start : IsAtStart c
  pub moves : ℕ
  pub comes : ComesWithin g.kind g.points moves t u (begin g) c es
