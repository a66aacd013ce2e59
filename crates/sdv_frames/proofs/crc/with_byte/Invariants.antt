use Rattle.std.proofs.Common.{◌-◌, ◌/◌, ◌^◌, ◌<◌, ◌++◌}
use Rattle.sdv_frames.specs.Bits.{Bits, bits}
use Rattle.sdv_frames.specs.Polynomial.{IsCrc7}
use Rattle.sdv_frames.proofs.crc.with_byte.Given as goal

-- the remainder is that of the message and the highest bits of the byte
abbrev pub invariant-loop-place : goal.invariant-loop-place
invariant-loop-place l = record {
  degree : l.after < 2 ^ 7;
  remainder : (message : Bits) → IsCrc7 message (bits 7 l.crc) → IsCrc7 (message ++ bits l.place (l.byte / 2 ^ (8 - l.place))) (bits 7 l.after);
}
