use Rattle.std.proofs.Common.{◌≡◌, ◌++◌, drop}
use Rattle.sdv_named_schedules.specs.Naming.{values_from}
use Rattle.sdv_named_schedules.proofs.naming.named_codes.Given as goal

-- the values so far, and those of the events that are left
abbrev pub invariant-loop-number : goal.invariant-loop-number
invariant-loop-number l =
    l.codes.items ++ values_from l.number l.places.items (drop l.number l.events) ≡ values_from 0 l.places.items l.events
