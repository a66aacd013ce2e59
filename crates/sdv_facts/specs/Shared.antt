-- Points that name sets of a table, seen with their lists.
-- The table is this project's own.
use Rattle.std.specs.Prelude.{◌≡◌, ◌<◌, List, [], length, map, fold, All, Contains}
use Rattle.sdv_card.specs.declared.shape.Shape.{Shape}
use Rattle.sdv_facts.specs.declared.certificate.PointFacts.{PointFacts as SharedPoint}
use Rattle.sdv_facts.specs.declared.certificate.Version.{Version}
use Rattle.sdv_facts.specs.Facts.{Facts, SharedFacts, PointFacts, Certificate, facts_with}
use Rattle.sdv_facts.specs.Limits.{PointInLimits}
use Rattle.sdv_facts.specs.SharedSets.{members, with_set}

-- what is known, with the members of the set that it names
abbrev pub facts_in : List (List Shape) → SharedFacts → Facts
facts_in sets f = facts_with (members sets f.set) f.numbers

abbrev pub point_in : List (List Shape) → SharedPoint → PointFacts
point_in sets p = record { facts = facts_in sets p.facts; base = p.base; turns = p.turns }

abbrev pub points_in : List (List Shape) → List SharedPoint → List PointFacts
points_in sets ps = map (point_in sets) ps

abbrev pub certificate_in : List (List Shape) → Version → List SharedPoint → Certificate
certificate_in sets version ps = record { version = version; points = points_in sets ps }

-- the point names a set of the table
abbrev pub IsNamed : List (List Shape) → SharedPoint → Type 0
IsNamed sets p = p.facts.set < length sets

-- the sets of points, each once, in the order of the first points that have them
abbrev pub sets_of : List PointFacts → List (List Shape)
sets_of ps = fold (λ sets p. with_set sets p.facts.shapes) [] ps

-- Each point names a set of the table, whose sets are those of the points, and no number is above the greatest of a
-- script.
pub record IsShared (sets : List (List Shape)) (ps : List SharedPoint) : Type 0 where
  pub named : All (IsNamed sets) ps
  pub table : sets ≡ sets_of (points_in sets ps)
  pub limits : All PointInLimits (points_in sets ps)

-- the shapes of each point are one of these sets
abbrev pub HasSetsOf : List (List Shape) → List PointFacts → Type 0
HasSetsOf sets ps = All (λ p. Contains sets p.facts.shapes) ps
