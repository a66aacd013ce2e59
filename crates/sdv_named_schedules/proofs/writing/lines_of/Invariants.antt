use Rattle.std.proofs.Common.{◌≡◌, ◌≤◌, ◌+◌, ◌++◌, drop, vec_items}
use Rattle.sdv_named_schedules.specs.Writing.{event_lines}
use Rattle.sdv_named_schedules.proofs.writing.lines_of.Given as goal

-- the lines so far, and those of the values that are left
abbrev pub invariant-loop-value : goal.invariant-loop-value
invariant-loop-value l =
    (vec_items l.text ++ event_lines l.number (drop l.value-index l.values) ≡ event_lines 1 l.values) × (l.number ≤ l.value-index + 1)
