use Rattle.std.proofs.Common.{◌^◌, ◌<◌, take}
use Rattle.sdv_frames.specs.Bits.{bits, bits_of}
use Rattle.sdv_frames.specs.Polynomial.{IsCrc7}
use Rattle.sdv_frames.proofs.crc.crc7.Given as goal

-- the remainder is that of the bytes so far
abbrev pub invariant-loop-byte : goal.invariant-loop-byte
invariant-loop-byte l = record {
  degree : l.crc < 2 ^ 7;
  remainder : IsCrc7 (bits_of (take l.byte-index l.bytes)) (bits 7 l.crc);
}
