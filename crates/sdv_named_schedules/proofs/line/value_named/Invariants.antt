use Rattle.std.proofs.Common.{◌≡◌, ◌+◌, drop}
use Rattle.sdv_named_schedules.specs.Reading.{value_named}
use Rattle.sdv_named_schedules.proofs.line.value_named.Given as goal

-- the row is that among the rows that are left
abbrev pub invariant-loop-place : goal.invariant-loop-place
invariant-loop-place l = value_named (l.place + 1) (drop l.place l.rows) l.text ≡ value_named 1 l.rows l.text
