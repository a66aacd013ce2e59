use Rattle.std.proofs.Common.{◌≡◌, ◌++◌, drop, map}
use Rattle.sdv_named_schedules.specs.Naming.{placed}
use Rattle.sdv_named_schedules.proofs.naming.places.Given as goal

-- the places so far, and those of the mishaps that are left
abbrev pub invariant-loop-mishap : goal.invariant-loop-mishap
invariant-loop-mishap l = l.places.items ++ map (placed l.events) (drop l.mishap-index l.mishaps) ≡ map (placed l.events) l.mishaps
