-- What a review finds of WRITES AND ERASES: each status at a reached `done` that leaves open whether the blocks of a write
-- command are stored or an erase is done.
use Rattle.std.specs.Prelude.{◌≡◌, ◌⊎◌, ◌≤◌, ◌*◌, ℕ, zero, suc, List, [], ◌∷◌, ◌++◌, length, take, drop, fold, Bool, true, false, ◌==◌, ◌&&◌, Option, Some, None, slice_get, if◌then◌else◌}
use Rattle.std.specs.List.{list_any}
use Rattle.sdv_graph.specs.Graph.{Graph}
use Rattle.sdv_graph.specs.Path.{Action, Point, stops}
use Rattle.sdv_graph.specs.Walk.{Finished}
use Rattle.sdv_facts.specs.Facts.{PointFacts}
use Rattle.sdv_review.specs.declared.finding.Finding.{Finding}
use Rattle.sdv_review.specs.declared.finding.Matter.TheVariants.{Unstored}
use Rattle.sdv_review.specs.declared.status.Erase.{Erase}
use Rattle.sdv_review.specs.declared.status.Status.{Status}
use Rattle.sdv_review.specs.declared.status.Status.TheVariants.{Quiet, Open, Failed, Left, EraseOpen, EraseFailed, EraseLeft, Unknown}
use Rattle.sdv_review.specs.Asked.{PlacesFound}
use Rattle.sdv_review.specs.Carried.{Table, IsCarried, first_set, shapes_at, shapes_in}
use Rattle.sdv_review.specs.Weights.{most_passes}

-- the blocks of each write command are known to be stored, and each erase to be done
abbrev pub is_stored : Status → Bool
is_stored Quiet = true
is_stored status = false

abbrev pub unstored : (point : ℕ) → Status → Finding
unstored point status = record { point = Some point; matter = Unstored status }

abbrev pub status_findings : (point : ℕ) → List Status → List Finding
status_findings point [] = []
status_findings point (s ∷ ss) =
    if is_stored s then status_findings point ss else unstored point s ∷ status_findings point ss

-- THE STATUSES OF A POINT: those of its shapes, each once

abbrev pub same_point : Option ℕ → Option ℕ → Bool
same_point None None = true
same_point (Some a) (Some b) = a == b
same_point a b = false

abbrev pub same_erase : Erase → Erase → Bool
same_erase a b = (a.first == b.first) && (same_point a.last b.last && same_point a.cmd38 b.cmd38)

abbrev pub same : Status → Status → Bool
same Quiet Quiet = true
same (Open a) (Open b) = a == b
same (Failed a) (Failed b) = a == b
same (Left a n) (Left b m) = (a == b) && (n == m)
same (EraseOpen a) (EraseOpen b) = same_erase a b
same (EraseFailed a) (EraseFailed b) = same_erase a b
same (EraseLeft a n) (EraseLeft b m) = (a == b) && (n == m)
same Unknown Unknown = true
same a b = false

abbrev pub is_among : List Status → Status → Bool
is_among statuses status = list_any (λ one. same one status) statuses

abbrev pub with_status : List Status → Status → List Status
with_status held status = if is_among held status then held else held ++ status ∷ []

abbrev pub joined : List Status → List Status → List Status
joined held statuses = fold with_status held statuses

abbrev pub statuses_of : List (List Status) → List Status
statuses_of sets = fold joined [] sets

-- the sets of its shapes
abbrev pub sets_at : List PointFacts → Table → (point : ℕ) → List (List Status)
sets_at ps table point = take (length (shapes_at ps point)) (drop (first_set ps point) table)

-- at a `done`
abbrev pub done_findings : Action → (point : ℕ) → List Status → List Finding
done_findings (stops Finished) point statuses = status_findings point statuses
done_findings action point statuses = []

abbrev pub writes_at : (point : ℕ) → Option Point → List (List Status) → List Finding
writes_at point (Some place) sets = done_findings place.action point (statuses_of sets)
writes_at point None sets = []

-- at the first n points
abbrev pub writes_before : List Point → List PointFacts → Table → (n : ℕ) → List Finding
writes_before points ps table zero = []
writes_before points ps table (suc n) =
    writes_before points ps table n ++ writes_at n (slice_get points n) (sets_at ps table n)

-- by statuses that are carried along the edges
pub record ByStatuses (g : Graph) (ps : List PointFacts) (found : List Finding) : Type 0 where
  pub table : Table
  pub carried : IsCarried g.kind g ps table
  pub are : found ≡ writes_before g.points ps table (length g.points)

-- The statuses of writes were not worked out: nothing is known at point 0. That takes more than 66,666 shapes in all.
abbrev pub not_worked_out : List Finding
not_worked_out = unstored 0 Unknown ∷ []

abbrev pub StoredFound : Graph → List PointFacts → List Finding → Type 0
StoredFound g ps found =
    ByStatuses g ps found ⊎ ((found ≡ not_worked_out) × (most_passes ≤ 9 * shapes_in ps))

-- what is found of statuses, and behind it what is found of places
pub record WritesFound (g : Graph) (ps : List PointFacts) (found : List Finding) : Type 0 where
  pub stored : List Finding
  pub places : List Finding
  pub all : found ≡ stored ++ places
  pub of_statuses : StoredFound g ps stored
  pub of_places : PlacesFound g ps places
