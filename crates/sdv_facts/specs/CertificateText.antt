-- The text of a certificate, and the limits within which certificates have one.
-- The form and the limits are this project's own.
--
-- Each part is written before what follows it. An item stands behind one space and a line ends in LF. Numbers are
-- decimal, without leading zeros; a shape is the 16 lower-case hexadecimal digits of its code.
use Rattle.std.specs.Prelude.{ℕ, suc, ◌+◌, ◌^◌, ◌<◌, ◌≤◌, List, [], ◌∷◌, ◌++◌, length, All, Option, Some, None, decimal}
use Rattle.std.specs.Int.{w64, to_be_bytes}
use Rattle.std.specs.List.{AllByRecursion}
use Rattle.hex.specs.Hex.{encode_lower}
use Rattle.sdv_card.specs.declared.shape.Shape.{Shape}
use Rattle.sdv_graph.specs.declared.limits.TheConstants.{MAX_STATEMENTS}
use Rattle.sdv_facts.specs.declared.certificate.TheConstants.{MAX_BYTES, MAX_SHAPES}
use Rattle.sdv_facts.specs.declared.certificate.Version.{Version}
use Rattle.sdv_facts.specs.declared.certificate.Version.TheVariants.{One, Two}
use Rattle.sdv_facts.specs.declared.numbers.VarFacts.{VarFacts}
use Rattle.sdv_facts.specs.declared.numbers.Numbers.{Numbers}
use Rattle.sdv_facts.specs.Facts.{AreRising, PointFacts, Certificate}
use Rattle.sdv_facts.specs.Limits.{PointInLimits}
use Rattle.sdv_facts.specs.Versions.{FitsVersion}
use Rattle.sdv_facts.specs.declared.words.TheConstants.{VERSION_1, VERSION_2, POINTS, POINT, BOUND, BOOT_CAPACITY, CAPACITY, VARIABLE, SHAPES, NO_GAP}

-- ITEMS

abbrev pub number_written : ℕ → List ℕ → List ℕ
number_written n others = 32 ∷ (decimal n ++ others)

-- a gap, or `-` where none is known
abbrev pub gap_written : Option ℕ → List ℕ → List ℕ
gap_written None others = NO_GAP.now ++ others
gap_written (Some gap) others = number_written gap others

-- what version 2 says of boot partitions, and version 1 does not
abbrev pub boot_gap_written : Version → Option ℕ → List ℕ → List ℕ
boot_gap_written One gap others = others
boot_gap_written Two gap others = gap_written gap others

abbrev pub boot_written : Version → ℕ → List ℕ → List ℕ
boot_written One mb others = others
boot_written Two mb others = BOOT_CAPACITY.now ++ number_written mb others

-- what is known of a number variable
abbrev pub var_written : Version → VarFacts → List ℕ → List ℕ
var_written version v others =
    VARIABLE.now ++ number_written v.lo (number_written v.hi (gap_written v.gap (boot_gap_written version v.bgap others)))

abbrev pub shape_written : Shape → List ℕ → List ℕ
shape_written s others = 32 ∷ (encode_lower (to_be_bytes w64 s.0) ++ others)

-- one after another
abbrev pub each_written : {A : Type 0} → (A → List ℕ → List ℕ) → List A → List ℕ → List ℕ
each_written written [] others = others
each_written written (x ∷ xs) others = written x (each_written written xs others)

-- LINES

-- version 1: p I b BASE C1 .. Ck m M v LO HI GAP .. s SHAPE SHAPE ..
-- version 2: p I b BASE C1 .. Ck m M mb MB v LO HI GAP BGAP .. s SHAPE SHAPE ..
abbrev pub numbers_written : Version → Numbers → List ℕ → List ℕ
numbers_written version ns others =
    CAPACITY.now ++ number_written ns.m (boot_written version ns.mb (each_written (var_written version) ns.vars.items others))

abbrev pub point_written : Version → (place : ℕ) → PointFacts → List ℕ → List ℕ
point_written version place p others =
    POINT.now ++ number_written place (
    BOUND.now ++ number_written p.base (each_written number_written p.turns.items (
    numbers_written version p.facts.numbers (
    SHAPES.now ++ each_written shape_written p.facts.shapes (10 ∷ others)))))

-- the points from this place on, one on each line
abbrev pub points_written : Version → (place : ℕ) → List PointFacts → List ℕ
points_written version place [] = []
points_written version place (p ∷ ps) = point_written version place p (points_written version (suc place) ps)

abbrev pub version_written : Version → List ℕ
version_written One = VERSION_1.now
version_written Two = VERSION_2.now

-- THE TEXT of a certificate
abbrev pub text_of : Certificate → List ℕ
text_of c = version_written c.version ++ (POINTS.now ++ number_written (length c.points)
    (10 ∷ points_written c.version 0 c.points))

-- LIMITS

abbrev pub max_bytes : ℕ
max_bytes = MAX_BYTES

abbrev pub max_points : ℕ
max_points = MAX_STATEMENTS

-- over all points
abbrev pub max_shapes : ℕ
max_shapes = MAX_SHAPES

abbrev pub shape_count : List PointFacts → ℕ
shape_count [] = 0
shape_count (p ∷ ps) = length p.facts.shapes + shape_count ps

pub record PointFits (p : PointFacts) : Type 0 where
  pub numbers : PointInLimits p
  pub loops : length p.turns.items ≤ 4
  pub vars : length p.facts.numbers.vars.items ≤ 8
  pub rising : AreRising p.facts.shapes
  pub words : All (λ s. s.0 < 2 ^ 64) p.facts.shapes

pub record WithinLimits (certificate : Certificate) : Type 0 where
  pub bytes : length (text_of certificate) ≤ max_bytes
  pub points : length certificate.points ≤ max_points
  pub shapes : shape_count certificate.points ≤ max_shapes
  pub each : AllByRecursion PointFits certificate.points
  pub version : All (FitsVersion certificate.version) certificate.points
