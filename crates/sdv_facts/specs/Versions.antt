-- What the versions of certificates can say: version 1 says nothing of boot partitions.
-- The versions are this project's own.
use Rattle.std.specs.Prelude.{◌≡◌, map, All, None}
use Rattle.sdv_facts.specs.declared.certificate.Version.{Version}
use Rattle.sdv_facts.specs.declared.certificate.Version.TheVariants.{One, Two}
use Rattle.sdv_facts.specs.declared.numbers.VarFacts.{VarFacts}
use Rattle.sdv_facts.specs.declared.numbers.Numbers.{Numbers}
use Rattle.sdv_facts.specs.Facts.{PointFacts}

-- nothing is said of boot partitions
pub record SaysNoBoot (ns : Numbers) : Type 0 where
  pub least : ns.mb ≡ 0
  pub gaps : All (λ v. v.bgap ≡ None) ns.vars.items

-- no more than the version can say is known of numbers
abbrev pub IsTold : Version → Numbers → Type 0
IsTold One ns = SaysNoBoot ns
IsTold Two ns = Unit {0}

-- and of a point
abbrev pub FitsVersion : Version → PointFacts → Type 0
FitsVersion version p = IsTold version p.facts.numbers

-- the same numbers, with nothing said of boot partitions
abbrev pub var_without_boot : VarFacts → VarFacts
var_without_boot v = record v { bgap = None }

abbrev pub without_boot : Numbers → Numbers
without_boot ns = record ns { mb = 0; vars = record { items = map var_without_boot ns.vars.items } }
