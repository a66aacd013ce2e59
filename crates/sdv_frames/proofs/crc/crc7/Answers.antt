use Rattle.std.proofs.Common.{arith}
use Rattle.sdv_frames.proofs.BitLaws.{bits_of-take}
use Rattle.sdv_frames.proofs.CrcLaws.{crc7-nothing}
use Rattle.sdv_frames.specs.Bits.{bits, bits_of}
use Rattle.sdv_frames.proofs.crc.crc7.Goals as goal

pub loop-byte-init : goal.loop-byte-init
unfolding bits bits_of
loop-byte-init c = record { degree = omega arith; remainder = crc7-nothing }

pub loop-byte-preserved : goal.loop-byte-preserved
loop-byte-preserved c = record {
  degree = c.with_byte-crc.ensures.degree;
  remainder = rw (bits_of-take c.args.bytes.now c.loop-byte.byte-index c.loop-byte-test.true)
      (c.with_byte-crc.ensures.remainder _ c.loop-byte.invariant.remainder);
}
