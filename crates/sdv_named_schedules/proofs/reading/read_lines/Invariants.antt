use Rattle.std.proofs.Common.{◌≡◌, ◌≤◌, ◌+◌, [], drop}
use Rattle.sdv_named_schedules.specs.Reading.{read_from, with_front}
use Rattle.sdv_named_schedules.proofs.reading.read_lines.Given as goal

-- the mishaps so far, and those of the bytes that are left behind a line's beginning
abbrev pub invariant-loop-byte : goal.invariant-loop-byte
invariant-loop-byte l =
    (with_front l.named.items (read_from l.number l.line.items (drop l.byte-index l.bytes)) ≡ read_from 1 [] l.bytes)
    × (l.number ≤ l.byte-index + 1)
