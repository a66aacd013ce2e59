use Rattle.std.proofs.Common.{◌≡◌, drop}
use Rattle.std.specs.List.{list_any}
use Rattle.sdv_named_schedules.specs.Reading.{is_letter}
use Rattle.sdv_named_schedules.proofs.reading.is_by_name.Given as goal

-- the bytes that are left decide
abbrev pub invariant-loop-byte : goal.invariant-loop-byte
invariant-loop-byte l = list_any is_letter (drop l.byte-index l.bytes) ≡ list_any is_letter l.bytes
