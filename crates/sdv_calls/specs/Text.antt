-- The text of a driver's certificate: the first line is its own, and the others are those of a certificate of version 2,
-- with a point for each point of the entries, and a last one for the time between calls.
use Rattle.std.specs.Prelude.{ℕ, List, ◌∷◌, ◌++◌, length}
use Rattle.sdv_facts.specs.CertificateText.{number_written, points_written, WithinLimits}
use Rattle.sdv_facts.specs.Facts.{PointFacts, Certificate}
use Rattle.sdv_facts.specs.declared.certificate.Version.TheVariants.{Two}
use Rattle.sdv_facts.specs.declared.words.TheConstants.{POINTS}
use Rattle.sdv_calls.specs.declared.text.TheConstants.{VERSION_3}

-- behind the first line
abbrev pub lines_of : List PointFacts → List ℕ
lines_of ps = POINTS.now ++ number_written (length ps) (10 ∷ points_written Two 0 ps)

abbrev pub driver_text : List PointFacts → List ℕ
driver_text ps = VERSION_3.now ++ lines_of ps

-- a certificate that says so of points
abbrev pub saying : List PointFacts → Certificate
saying ps = record { version = Two; points = ps }

-- the limits are those of other certificates
abbrev pub WithinDriverLimits : List PointFacts → Type 0
WithinDriverLimits ps = WithinLimits (saying ps)
