-- THE VERDICT on a script: it is accepted, with the bound of the checker and what a review finds; or it is refused, with every
-- point that fails.
-- This project's own.
use Rattle.std.specs.Prelude.{◌≡◌, ◌<◌, ◌^◌, List, ◌++◌, SomeIff}
use Rattle.sdv_script.specs.declared.script.Script.{Script}
use Rattle.sdv_graph.specs.Graph.{Graph}
use Rattle.sdv_facts.specs.declared.certificate.Certificate.{Certificate}
use Rattle.sdv_facts.specs.Bounds.{bound_of}
use Rattle.sdv_facts.specs.Closed.{Closed}
use Rattle.sdv_facts.specs.Facts.{PointFacts}
use Rattle.sdv_certify.specs.declared.fault.CertifyFault.{CertifyFault}
use Rattle.sdv_certify.specs.declared.fault.CertifyFault.TheVariants as certifies
use Rattle.sdv_certify.specs.Assembled.{CertificateOf, RefusedFor, SurveyOf}
use Rattle.sdv_certify.specs.Refusal.{IsOfPoint}
use Rattle.sdv_explain.specs.Failing.{AreFailures}
use Rattle.sdv_script.specs.Shown.{shown}
use Rattle.sdv_review.specs.declared.finding.Finding.{Finding}
use Rattle.sdv_review.specs.Findings.{findings_of}
use Rattle.sdv_review.specs.Given.{most_of_statements}
use Rattle.sdv_review.specs.Input.{ShiftsFound}
use Rattle.sdv_review.specs.Writes.{WritesFound}
use Rattle.sdv_verdict.specs.declared.judging.Verdict.{Verdict}
use Rattle.sdv_verdict.specs.declared.judging.Verdict.TheVariants.{TooMany, Refused, Accepted}

-- each point that fails is told, by what is known of the points
abbrev pub IsRefusal : Graph → CertifyFault → Certificate → Verdict → Type 0
IsRefusal g fault known (Refused told failures all) = (told ≡ fault) × (all ≡ known) × AreFailures g known.points failures.items
IsRefusal g fault known verdict = ⊥

-- what is found of data: of writes and erases, and behind it of the blocks that writes take
pub record DataFound (g : Graph) (ps : List PointFacts) (found : List Finding) : Type 0 where
  pub writes : List Finding
  pub shifts : List Finding
  pub all : found ≡ writes ++ shifts
  pub of_writes : WritesFound g ps writes
  pub of_shifts : ShiftsFound g shifts

-- the certificate is closed; its bound is told, the most blocks that a run gives, by the statements, exactly where the number has
-- 64 bits, and what the review of it finds
abbrev pub IsAcceptance : Script → Graph → Certificate → Verdict → Type 0
IsAcceptance s g known (Accepted bound given found writes) = Closed g known.points × (bound ≡ bound_of g known.points)
    × SomeIff given (most_of_statements (shown s).body < 2 ^ 64) (most_of_statements (shown s).body)
    × (found.items ≡ findings_of g known.points) × DataFound g known.points writes.items
IsAcceptance s g known verdict = ⊥

-- of a script and its graph
abbrev pub IsVerdict : Script → Graph → Verdict → Type 0
IsVerdict s g TooMany = RefusedFor s certifies.TooMany
IsVerdict s g (Refused fault failures known) =
    IsOfPoint fault × RefusedFor s fault × SurveyOf s known.points × AreFailures g known.points failures.items
IsVerdict s g (Accepted bound given found writes) = (known : Certificate) × CertificateOf s known.points
    × IsAcceptance s g known (Accepted bound given found writes)
