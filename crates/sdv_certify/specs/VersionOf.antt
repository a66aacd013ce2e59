-- Which version of certificates a script has, and what is carried so that the version can say it: version 2 where a
-- `let` takes the capacity of a boot partition, and else version 1, which says nothing of boot partitions at any point.
-- The versions are this project's own.
use Rattle.std.specs.Prelude.{List, [], ◌∷◌, Bool, true, false, ◌||◌, Option, Some, None, if◌then◌else◌}
use Rattle.sdv_graph.specs.declared.tree.Atom.{Atom}
use Rattle.sdv_graph.specs.declared.tree.Atom.TheVariants.{ExtBoot}
use Rattle.sdv_graph.specs.Graph.{Graph}
use Rattle.sdv_graph.specs.Path.{Action, Point, lets}
use Rattle.sdv_facts.specs.declared.certificate.Version.{Version}
use Rattle.sdv_facts.specs.declared.certificate.Version.TheVariants.{One, Two}
use Rattle.sdv_facts.specs.declared.numbers.Numbers.{Numbers}
use Rattle.sdv_facts.specs.Facts.{Facts}
use Rattle.sdv_facts.specs.Versions.{IsTold, without_boot}
use Rattle.sdv_certify.specs.Family.{Family}

-- THE VERSION

abbrev pub is_boot : Atom → Bool
is_boot ExtBoot = true
is_boot atom = false

abbrev pub takes_boot : Action → Bool
takes_boot (lets l t) = is_boot l.atom
takes_boot action = false

-- some point does, whether or not a run comes there
abbrev pub one_takes_boot : List Point → Bool
one_takes_boot [] = false
one_takes_boot (p ∷ ps) = takes_boot p.action || one_takes_boot ps

abbrev pub version_of : Graph → Version
version_of g = if one_takes_boot g.points then Two else One

-- WHAT IT SAYS

-- as much of these numbers as the version can say
abbrev pub told : Version → Numbers → Numbers
told One ns = without_boot ns
told Two ns = ns

-- no more than that is known
abbrev pub IsToldAt : Version → Option Facts → Type 0
IsToldAt version None = Unit {0}
IsToldAt version (Some f) = IsTold version f.numbers

-- at each point
abbrev pub AllTold : Version → Family → Type 0
AllTold version [] = Unit {0}
AllTold version (o ∷ os) = IsToldAt version o × AllTold version os
