use Rattle.std.proofs.Common.{◌≡◌, drop}
use Rattle.sdv_certify.specs.VersionOf.{one_takes_boot}
use Rattle.sdv_certify.proofs.versions.version_of.Given as goal

-- the points that are left decide
abbrev pub invariant-loop-number : goal.invariant-loop-number
invariant-loop-number l = one_takes_boot (drop l.number l.graph.points) ≡ one_takes_boot l.graph.points
