use Rattle.std.proofs.Common.{◌≡◌, drop}
use Rattle.sdv_script.specs.Place.{texts}
use Rattle.sdv_script.specs.Rules.{place_from}
use Rattle.sdv_script.proofs.expect.place_of.Given as goal

abbrev pub invariant-loop-i : goal.invariant-loop-i
invariant-loop-i l = place_from l.i l.name (drop l.i (texts l.names)) ≡ place_from 0 l.name (texts l.names)
