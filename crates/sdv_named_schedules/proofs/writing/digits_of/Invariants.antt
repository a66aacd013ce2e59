use Rattle.std.proofs.Common.{◌≡◌, ◌++◌, drop, map, vec_items}
use Rattle.sdv_named_schedules.specs.Writing.{digit_of}
use Rattle.sdv_named_schedules.proofs.writing.digits_of.Given as goal

-- the digits so far, and those of the values that are left
abbrev pub invariant-loop-value : goal.invariant-loop-value
invariant-loop-value l = vec_items l.digits ++ map digit_of (drop l.value-index l.values) ≡ map digit_of l.values
