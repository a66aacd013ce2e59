use Rattle.std.proofs.Common.{◌≡◌, drop}
use Rattle.sdv_named_schedules.specs.Naming.{value_at}
use Rattle.sdv_named_schedules.proofs.naming.value_at.Given as goal

-- the value is that of the mishaps that are left
abbrev pub invariant-loop-placed : goal.invariant-loop-placed
invariant-loop-placed l = value_at l.number (drop l.placed-index l.places) ≡ value_at l.number l.places
