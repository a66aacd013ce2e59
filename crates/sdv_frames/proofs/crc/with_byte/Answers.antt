use Rattle.std.proofs.Common.{◌/◌, ◌-◌, ◌^◌, append-nil, append_assoc}
use Rattle.sdv_frames.specs.Bits.{bits}
use Rattle.sdv_frames.proofs.BitStep.{next_bit}
use Rattle.sdv_frames.proofs.crc.with_byte.Goals as goal

pub loop-place-init : goal.loop-place-init
unfolding bits
loop-place-init c = record { degree = c.requires; remainder = λ message start. rw (append-nil message) start }

pub loop-place-preserved : goal.loop-place-preserved
loop-place-preserved c = record {
  degree = c.with_bit-after.ensures.degree;
  remainder = λ message start.
      rw (
        next_bit c.loop-place.place c.args.byte c.loop-place-test.true,
        ← append_assoc message (bits c.loop-place.place (c.args.byte / 2 ^ (8 - c.loop-place.place))),
      )
      (c.with_bit-after.ensures.remainder _ (c.loop-place.invariant.remainder message start));
}
