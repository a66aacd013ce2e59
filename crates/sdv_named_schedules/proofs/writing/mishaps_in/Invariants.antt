use Rattle.std.proofs.Common.{◌≡◌, ◌+◌, ◌≤◌, drop}
use Rattle.sdv_named_schedules.specs.Writing.{mishaps_in}
use Rattle.sdv_named_schedules.proofs.writing.mishaps_in.Given as goal

-- the mishaps so far, and those of the values that are left; there are no more than values
abbrev pub invariant-loop-value : goal.invariant-loop-value
invariant-loop-value l = (l.count + mishaps_in (drop l.value-index l.values) ≡ mishaps_in l.values) × (l.count ≤ l.value-index)
