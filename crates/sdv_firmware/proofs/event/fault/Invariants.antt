use Rattle.std.proofs.Common.{◌≡◌, ◌<◌, get_or, length, ℕ}
use Rattle.sdv_table.specs.Reading.{name_of}
use Rattle.sdv_firmware.proofs.event.fault.Given as goal

-- each byte so far is one of the name
abbrev pub invariant-loop-at : goal.invariant-loop-at
invariant-loop-at l = record {
  room : length l.bytes ≡ 16;
  bytes : (k : ℕ) → k < l.at → get_or l.bytes k 0 ≡ get_or (name_of l.name.length l.name.words.now) k 0;
}
