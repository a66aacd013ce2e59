-- A REFUTATION: a run of a script beside a card that shows that the script is no good. Each event of the run is allowed
-- at the card and is a step of it. Then comes an event that is not legal at the card or not in bounds, or `done` while
-- the card is in another state than transfer.
use Rattle.std.specs.Prelude.{◌≡◌, ◌≢◌, ℕ, List, [], ◌∷◌, ◌++◌}
use Rattle.sdv_card.specs.declared.state.State.TheVariants.{Tran}
use Rattle.sdv_card.specs.Card.{Card}
use Rattle.sdv_card.specs.Profile.{IsAtStart}
use Rattle.sdv_card.specs.ScriptEvent.{ScriptEvent, Return, MayReturn}
use Rattle.sdv_card.specs.Step.{Step}
use Rattle.sdv_graph.specs.Walk.{Pair, Ending, Finished, Open, Walk}
use Rattle.sdv_graph.specs.Graph.{Graph}
use Rattle.sdv_script.specs.OneGraph.{IsGraphOfScript}
use Rattle.sdv_script.specs.Script.{Parsed, IsScript}
use Rattle.sdv_facts.specs.Facts.{PointFacts}
use Rattle.sdv_facts.specs.Closed.{Closed}
use Rattle.sdv_facts.specs.Beside.{IsAllowed}
use Rattle.sdv_check.specs.Verified.{Acceptance, IsAccepted}

-- how a script walks
abbrev pub WalkOf : Parsed → Ending → List Pair → Type 0
WalkOf s e es = Walk s.names.kind s.names s.body e es

-- the events with what they returned are, in order, steps of one card, and each is allowed where it comes
abbrev pub AllowedStepsOf : Card → List Pair → (last : Card) → Type 0
AllowedStepsOf c [] last = c ≡ last
AllowedStepsOf c (p ∷ es) last = (u : Card) × IsAllowed p.0 c × Step p.0 c p.1 u × AllowedStepsOf u es last

-- what comes after the events of a run
pub data Coming : Type 0 where
  an_event : ScriptEvent → Coming
  the_end : Coming

-- it comes so, whatever the event returns
abbrev pub ComesTo : Parsed → List Pair → Coming → Type 0
ComesTo s es (an_event event) =
    (returned : Return) → MayReturn event returned → WalkOf s Open (es ++ (event, returned) ∷ [])
ComesTo s es the_end = WalkOf s Finished es

abbrev pub IsWrongAt : Coming → Card → Type 0
IsWrongAt (an_event event) c = IsAllowed event c → ⊥
IsWrongAt the_end c = c.state ≢ Tran

pub record Refutes (s : Parsed) (c : Card) (es : List Pair) (coming : Coming) : Type 0 where
  -- the card is of the script's kind and of the profile, before its first command
  pub kind : s.names.kind ≡ c.kind
  pub start : IsAtStart c
  pub last : Card
  pub steps : AllowedStepsOf c es last
  pub comes : ComesTo s es coming
  pub wrong : IsWrongAt coming last

-- THE LAWS

-- no certificate is closed for the graph of a refuted script
abbrev pub NoneIsClosed : Type 0
NoneIsClosed = (s : Parsed) (c : Card) (es : List Pair) (coming : Coming) (g : Graph) (ps : List PointFacts) →
    Refutes s c es coming → IsGraphOfScript s g → Closed g ps → ⊥

-- so a refuted script is accepted with no certificate, whatever its text
abbrev pub NoneIsAccepted : Type 0
NoneIsAccepted = (s : Parsed) (c : Card) (es : List Pair) (coming : Coming) (certificate : List ℕ) (a : Acceptance) →
    IsScript s → Refutes s c es coming → IsAccepted s.text certificate a → ⊥
