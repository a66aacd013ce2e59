-- EVERY POINT THAT FAILS a clause: how it fails, and a shape at which it does. Of its clauses the first that fails counts.
use Rattle.std.specs.Prelude.{◌≡◌, ◌<◌, ◌⊎◌, ℕ, List, All, Option, Some, None, find, is_some, length, slice_get}
use Rattle.sdv_registers.specs.declared.kind.Kind.{Kind}
use Rattle.sdv_card.specs.declared.shape.Shape.{Shape}
use Rattle.sdv_card.specs.Lists.{May}
use Rattle.sdv_graph.specs.Graph.{Graph}
use Rattle.sdv_graph.specs.Path.{Action, Point}
use Rattle.sdv_facts.specs.Facts.{Facts, PointFacts}
use Rattle.sdv_certify.specs.declared.fault.CertifyFault.{CertifyFault}
use Rattle.sdv_certify.specs.declared.fault.CertifyFault.TheVariants as certifies
use Rattle.sdv_certify.specs.Refusal.{AllEnd}
use Rattle.sdv_explain.specs.declared.failing.Failure.{Failure}
use Rattle.sdv_explain.specs.Reason.{illegality_there, why_refused}
use Rattle.sdv_explain.specs.Refused.{AllTake, IsOtherEnd, IsUntaken}

-- the first of the shapes at which the event is not legal
abbrev pub illegal_shape : Kind → Action → List Shape → Option Shape
illegal_shape k action shapes = find (λ s. is_some (illegality_there k action s)) shapes

abbrev pub IsAddressFailure : Kind → Action → Facts → (shape : Shape) → Type 0
IsAddressFailure k action known shape =
    (illegal_shape k action known.shapes ≡ None) × IsUntaken action known.numbers known.shapes shape

abbrev pub IsEndFailure : Kind → Action → Facts → (shape : Shape) → Type 0
IsEndFailure k action known shape =
    (illegal_shape k action known.shapes ≡ None) × AllTake action known.numbers known.shapes
    × IsOtherEnd action known.shapes shape

-- the point with this statement fails so, where this is known there
abbrev pub FailsBy : CertifyFault → Kind → Action → Facts → (point : ℕ) → (shape : Shape) → Type 0
FailsBy (certifies.Illegal number s) k action known point shape =
    (number ≡ point) × (s ≡ shape) × (illegal_shape k action known.shapes ≡ Some shape)
FailsBy (certifies.Address number) k action known point shape = (number ≡ point) × IsAddressFailure k action known shape
FailsBy (certifies.EndState number) k action known point shape = (number ≡ point) × IsEndFailure k action known shape
FailsBy certifies.TooMany k action known point shape = ⊥
FailsBy certifies.Memory k action known point shape = ⊥

-- for this reason
pub record IsFailureAt (k : Kind) (action : Action) (known : Facts) (point : ℕ) (f : Failure) : Type 0 where
  pub there : f.point ≡ point
  pub fails : FailsBy f.fault k action known point f.shape
  pub why : why_refused f.fault k action f.shape ≡ Some f.why

-- each clause is kept at each shape
abbrev pub IsFineAt : Kind → Action → Facts → Type 0
IsFineAt k action known =
    (illegal_shape k action known.shapes ≡ None) × AllTake action known.numbers known.shapes × AllEnd action known.shapes

-- a point of the graph fails so, by what is known of the points
pub record IsFailure (g : Graph) (ps : List PointFacts) (point : ℕ) (f : Failure) : Type 0 where
  pub place : Point
  pub here : slice_get g.points point ≡ Some place
  pub facts : PointFacts
  pub known : slice_get ps point ≡ Some facts
  pub fails : IsFailureAt g.kind place.action facts.facts point f

abbrev pub IsFine : Graph → List PointFacts → (point : ℕ) → Type 0
IsFine g ps point =
    (place : Point) → slice_get g.points point ≡ Some place → (facts : PointFacts) → slice_get ps point ≡ Some facts
    → IsFineAt g.kind place.action facts.facts

-- one of these is how the point fails
pub record IsAmong (g : Graph) (ps : List PointFacts) (point : ℕ) (failures : List Failure) : Type 0 where
  pub failure : Failure
  pub one : May failures failure
  pub fails : IsFailure g ps point failure

-- the points below a number are fine, or fail as one of these says
abbrev pub AreFailuresBelow : Graph → List PointFacts → (n : ℕ) → List Failure → Type 0
AreFailuresBelow g ps n failures = (point : ℕ) → point < n → IsFine g ps point ⊎ IsAmong g ps point failures

-- some point below a number fails so
pub record FailsBelow (g : Graph) (ps : List PointFacts) (n : ℕ) (f : Failure) : Type 0 where
  pub point : ℕ
  pub below : point < n
  pub fails : IsFailure g ps point f

pub record AreFailuresUpTo (g : Graph) (ps : List PointFacts) (n : ℕ) (failures : List Failure) : Type 0 where
  -- each of them is a failure
  pub each : All (FailsBelow g ps n) failures
  -- and no point that fails is left out
  pub all : AreFailuresBelow g ps n failures

-- those of all points
abbrev pub AreFailures : Graph → List PointFacts → List Failure → Type 0
AreFailures g ps failures = AreFailuresUpTo g ps (length g.points) failures
