-- The text of a certificate piece by piece, each by itself.
use Rattle.std.specs.Prelude.{◌≡◌, ℕ, suc, List, [], ◌∷◌, ◌++◌, flat_map, decimal, Option, Some, None}
use Rattle.std.specs.Int.{w64, to_be_bytes}
use Rattle.std.specs.Io.KnownBytes.{Appends}
use Rattle.hex.specs.Hex.{encode_lower}
use Rattle.sdv_card.specs.declared.shape.Shape.{Shape}
use Rattle.sdv_facts.specs.declared.certificate.Version.{Version}
use Rattle.sdv_facts.specs.declared.certificate.Version.TheVariants.{One, Two}
use Rattle.sdv_facts.specs.declared.numbers.VarFacts.{VarFacts}
use Rattle.sdv_facts.specs.CertificateText.{version_written}
use Rattle.sdv_facts.specs.Facts.{PointFacts}
use Rattle.sdv_facts.specs.declared.words.TheConstants.{POINTS, POINT, BOUND, BOOT_CAPACITY, CAPACITY, VARIABLE, SHAPES, NO_GAP}

abbrev pub number_text : ℕ → List ℕ
number_text n = 32 ∷ decimal n

abbrev pub gap_text : Option ℕ → List ℕ
gap_text None = NO_GAP.now
gap_text (Some gap) = number_text gap

-- what version 2 says of boot partitions
abbrev pub boot_gap_text : Version → Option ℕ → List ℕ
boot_gap_text One gap = []
boot_gap_text Two gap = gap_text gap

abbrev pub boot_text : Version → ℕ → List ℕ
boot_text One mb = []
boot_text Two mb = BOOT_CAPACITY.now ++ number_text mb

abbrev pub var_text : Version → VarFacts → List ℕ
var_text version v = VARIABLE.now
    ++ (number_text v.lo ++ (number_text v.hi ++ (gap_text v.gap ++ boot_gap_text version v.bgap)))

abbrev pub shape_text : Shape → List ℕ
shape_text s = 32 ∷ encode_lower (to_be_bytes w64 s.0)

-- the line of a point before its shapes
abbrev pub bound_text : (place : ℕ) → PointFacts → List ℕ
bound_text place p = POINT.now ++ (number_text place
    ++ (BOUND.now ++ (number_text p.base ++ flat_map number_text p.turns.items)))

abbrev pub numbers_text : Version → PointFacts → List ℕ
numbers_text version p = CAPACITY.now ++ (number_text p.facts.numbers.m
    ++ (boot_text version p.facts.numbers.mb ++ (flat_map (var_text version) p.facts.numbers.vars.items ++ SHAPES.now)))

-- and from there on
abbrev pub shapes_text : List Shape → List ℕ
shapes_text shapes = flat_map shape_text shapes ++ 10 ∷ []

abbrev pub line_text : Version → (place : ℕ) → PointFacts → List ℕ
line_text version place p = (bound_text place p ++ numbers_text version p) ++ shapes_text p.facts.shapes

-- the lines of points from this place on
abbrev pub lines_text : Version → (place : ℕ) → List PointFacts → List ℕ
lines_text version place [] = []
lines_text version place (p ∷ ps) = line_text version place p ++ lines_text version (suc place) ps

-- the first two lines
abbrev pub title_text : Version → (count : ℕ) → List ℕ
title_text version count = version_written version ++ (POINTS.now ++ (number_text count ++ 10 ∷ []))

-- a front of what is held is written, and the rest is left
abbrev pub PassesOn : (old new : Option (List ℕ)) (held left : List ℕ) → Type 0
PassesOn old new held left = (written : List ℕ) × (held ≡ written ++ left) × Appends old new written
