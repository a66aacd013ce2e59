-- WHY A SCRIPT IS REFUSED, by a survey of its graph: the point that is refused first, a way there, and each point that fails.
use Rattle.std.specs.Prelude.{◌≡◌, ◌⊎◌, ℕ, List, [], slice_get, Option, Some, IfSome, IfNone, None}
use Rattle.sdv_registers.specs.declared.kind.Kind.{Kind}
use Rattle.sdv_graph.specs.Graph.{Graph}
use Rattle.sdv_graph.specs.Path.{Action, Point}
use Rattle.sdv_facts.specs.Facts.{Facts, PointFacts}
use Rattle.sdv_certify.specs.declared.assembling.ScriptSurvey.{ScriptSurvey}
use Rattle.sdv_certify.specs.declared.fault.CertifyFault.{CertifyFault}
use Rattle.sdv_certify.specs.declared.fault.CertifyFault.TheVariants as certifies
use Rattle.sdv_explain.specs.declared.failing.Failure.{Failure}
use Rattle.sdv_explain.specs.declared.refusal.Refusal.{Refusal}
use Rattle.sdv_telling.specs.declared.visit.Visit.{Visit}
use Rattle.sdv_explain.specs.Failing.{AreFailures}
use Rattle.sdv_explain.specs.Reason.{why_refused}
use Rattle.sdv_explain.specs.Refused.{IsRefusedAt, IsRefusedNowhere}
use Rattle.sdv_explain.specs.Way.{HasNoWay, IsShortest}

-- the point that a refusal names
abbrev pub NamesPoint : CertifyFault → (point : ℕ) → Type 0
NamesPoint (certifies.Illegal number shape) point = number ≡ point
NamesPoint (certifies.Address number) point = number ≡ point
NamesPoint (certifies.EndState number) point = number ≡ point
NamesPoint certifies.TooMany point = ⊥
NamesPoint certifies.Memory point = ⊥

-- the point with this statement fails by the fault at a shape, for this reason, where this is known there
pub record IsRefusedSo (fault : CertifyFault) (k : Kind) (action : Action) (known : Facts) (point : ℕ)
    (f : Failure) : Type 0 where
  pub by : f.fault ≡ fault
  pub there : f.point ≡ point
  pub at : IsRefusedAt fault action known f.shape
  pub why : why_refused fault k action f.shape ≡ Some f.why

-- the refusal names the point, which fails so by what is known of the points
pub record Refuses (g : Graph) (ps : List PointFacts) (fault : CertifyFault) (f : Failure) : Type 0 where
  pub named : NamesPoint fault f.point
  pub place : Point
  pub here : slice_get g.points f.point ≡ Some place
  pub facts : PointFacts
  pub known : slice_get ps f.point ≡ Some facts
  pub refused : IsRefusedSo fault g.kind place.action facts.facts f.point f

-- if the refusal names a point, of which something is known, then no shape is refused there
abbrev pub RefusesNone : Graph → List PointFacts → CertifyFault → Type 0
RefusesNone g ps fault =
    (point : ℕ) → NamesPoint fault point → (place : Point) → slice_get g.points point ≡ Some place
    → (facts : PointFacts) → slice_get ps point ≡ Some facts → IsRefusedNowhere fault place.action facts.facts

-- the way leads to the shape at which the point fails, and no way there has fewer visits; or it is empty, and none does
abbrev pub LeadsTo : Graph → List PointFacts → Option Failure → (way : List Visit) → Type 0
LeadsTo g ps None way = way ≡ []
LeadsTo g ps (Some f) way = ((way ≡ []) × HasNoWay g ps f.point f.shape) ⊎ IsShortest g ps way f.point f.shape

-- the survey of the graph tells a refusal, and this is what it refuses
pub record IsRefusal (g : Graph) (survey : ScriptSurvey) (r : Refusal) : Type 0 where
  pub fault : survey.refusal ≡ Some r.fault
  pub refused : IfSome r.refused (Refuses g survey.known.points r.fault)
  pub none : IfNone r.refused (RefusesNone g survey.known.points r.fault)
  pub way : LeadsTo g survey.known.points r.refused r.way.items
  pub failures : AreFailures g survey.known.points r.failures.items
