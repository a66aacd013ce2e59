-- A run over a port that SHOWS A CARD, of a script whose certificate is closed: its events are steps of that card,
-- legal and in bounds, and no more commands than were certified.
use Rattle.std.specs.Prelude.{◌≡◌, ◌≤◌, Bool, ℕ, List, Option, Result, Ok, Err}
use Rattle.sdv_registers.specs.declared.kind.Kind.{Kind}
use Rattle.sdv_card.specs.Card.{Card}
use Rattle.sdv_card.specs.Port.{Shows}
use Rattle.sdv_graph.specs.Graph.{Graph}
use Rattle.sdv_graph.specs.Walk.{Pair, Ending, Open}
use Rattle.sdv_facts.specs.Beside.{StepsOf, commands, EndsWell, IsGood, MayStart}
use Rattle.sdv_trace.specs.declared.end.End.{End}
use Rattle.sdv_run.specs.declared.fault.RunFault.{RunFault}
use Rattle.sdv_run.specs.declared.fault.RunFault.TheVariants.{Reply}
use Rattle.sdv_run.specs.Run.{Steps, ending_of}
use Rattle.sdv_run.specs.Step.{World}
use Rattle.sdv_run.specs.Ran.{Ended, Stopped}

-- the port shows a card of the profile, of this kind, before its first command, or in any state where the script begins
-- with CMD0
pub record ShowsStart {S : Type 0} (card : S → Option Card) (k : Kind) (begins : Bool) (s : S) (c : Card) : Type 0 where
  pub shown : Shows card s c
  pub kind : k ≡ c.kind
  pub start : MayStart begins c

-- the events moved the card, step by step, and the port shows it as they left it
pub record OnCard {S : Type 0} (card : S → Option Card) (most : ℕ) (e : Ending) (es : List Pair) (c : Card)
    (s' : S) : Type 0 where
  pub last : Card
  pub steps : StepsOf c es last
  pub shown : Shows card s' last
  -- each was legal and in bounds
  pub good : IsGood most e es c
  pub sent : commands es ≤ most
  -- in `done` the card is in the transfer state
  pub ends : EndsWell e last

-- A run as any, and beside the card that the port shows: no answer is refused, and no argument is too wide.
abbrev pub RanBeside : {S : Type 0} → Steps S → (S → Option Card) → Graph → (most : ℕ) → (w w' : World S) →
    Result End RunFault → Type 0
RanBeside steps card g most w w' (Ok end) =
    (ran : Ended steps g end w w')
    × ((c : Card) → ShowsStart card g.kind g.begins w.port c → ∥ OnCard card most (ending_of end) ran.events c w'.port ∥₁)
RanBeside steps card g most w w' (Err fault) =
    (ran : Stopped steps g fault w w')
    × ((c : Card) → ShowsStart card g.kind g.begins w.port c → ∥ OnCard card most Open ran.events c w'.port ∥₁
    × (fault ≡ Reply → ⊥))
