-- What a review's findings MEAN, and what it means that there is none: of every run beside any card of the profile.
use Rattle.std.specs.Prelude.{◌≡◌, ℕ, List, Bool, true, slice_get, Some}
use Rattle.sdv_card.specs.declared.shape.Shape.{Shape}
use Rattle.sdv_card.specs.Card.{Card}
use Rattle.sdv_card.specs.Lists.{May}
use Rattle.sdv_card.specs.ShapeBits.{partition_shown}
use Rattle.sdv_graph.specs.declared.graph.Target.{Target}
use Rattle.sdv_graph.specs.declared.tree.Condition.{Condition}
use Rattle.sdv_graph.specs.declared.tree.ScriptCommand.{ScriptCommand}
use Rattle.sdv_graph.specs.Conditions.{condition_holds}
use Rattle.sdv_graph.specs.Graph.{Graph}
use Rattle.sdv_graph.specs.Path.{Case, Stand, sends, tests}
use Rattle.sdv_graph.specs.Walk.{Pair}
use Rattle.sdv_facts.specs.Facts.{PointFacts}
use Rattle.sdv_review.specs.declared.finding.Finding.{Finding}
use Rattle.sdv_review.specs.declared.finding.Matter.TheVariants.{Unreached, Partition, OneWay}
use Rattle.sdv_review.specs.declared.finding.Reach.{Reach}
use Rattle.sdv_review.specs.Comes.{Comes}
use Rattle.sdv_review.specs.Findings.{has_address}

-- where a finding says that no run comes to a statement, none does
abbrev pub NoneComes : Graph → List Finding → Type 0
NoneComes g found = (point : ℕ) → May found (record { point = Some point; matter = Unreached })
    → (c : Card) (es : List Pair) (s : Stand) (u : Card) → Comes g c es s u → s.point ≡ point → ⊥

-- no finding says that the partition of the command at this point is not certain
abbrev pub IsCertain : List Finding → (point : ℕ) → Type 0
IsCertain found point = (index : ℕ) (reach : Reach)
    → May found (record { point = Some point; matter = Partition index reach }) → ⊥

abbrev pub AreCertain : List Finding → Type 0
AreCertain found = (point : ℕ) → IsCertain found point

-- Where there is no such finding, each run that comes to a command with an address has the same partition in access
-- there: that of each shape that is known at the point.
abbrev pub PartitionsAreTold : Graph → List PointFacts → List Finding → Type 0
PartitionsAreTold g ps found =
    (c : Card) (es : List Pair) (s : Stand) (u : Card) → Comes g c es s u
    → (command : ScriptCommand) (cases : List Case) (other : Target) (most : List ℕ)
    → slice_get g.points s.point ≡ Some (record { action = sends command cases other; most = most })
    → has_address command.ask ≡ true → IsCertain found s.point
    → (p : PointFacts) → slice_get ps s.point ≡ Some p → (shape : Shape) → May p.facts.shapes shape
    → partition_shown shape ≡ u.mode.partition

-- where a finding says that a test comes out one way, it comes out so in each run that comes there
abbrev pub TestsComeOut : Graph → List Finding → Type 0
TestsComeOut g found =
    (c : Card) (es : List Pair) (s : Stand) (u : Card) → Comes g c es s u
    → (condition : Condition) (met unmet : Target) (most : List ℕ)
    → slice_get g.points s.point ≡ Some (record { action = tests condition met unmet; most = most })
    → (holds : Bool) → May found (record { point = Some s.point; matter = OneWay holds })
    → condition_holds s.host condition ≡ holds
