use Rattle.std.proofs.Common.{◌≡◌, ◌++◌, drop, map}
use Rattle.std.specs.Prelude.{filter}
use Rattle.sdv_named_schedules.specs.Naming.{is_idle, mishap_of}
use Rattle.sdv_named_schedules.proofs.idle.idle_mishaps.Given as goal

-- the lines so far, and those of the mishaps that are left
abbrev pub invariant-loop-mishap : goal.invariant-loop-mishap
invariant-loop-mishap l =
    map mishap_of l.idle.items ++ filter (is_idle l.events) (drop l.mishap-index l.mishaps) ≡ filter (is_idle l.events) l.mishaps
