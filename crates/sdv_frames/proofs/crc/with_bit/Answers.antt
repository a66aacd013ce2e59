use Rattle.std.proofs.Common.{true, false}
use Rattle.sdv_frames.proofs.BitStep.{crc7_where, small_where}
use Rattle.sdv_frames.proofs.crc.with_bit.Goals as goal

pub returns-then-crc-bit-clause-remainder : goal.returns-then-crc-bit-clause-remainder
returns-then-crc-bit-clause-remainder c message = crc7_where message c.args.crc c.args.bit true c.if-crc-bit.true c.requires

pub returns-else-crc-bit-clause-remainder : goal.returns-else-crc-bit-clause-remainder
returns-else-crc-bit-clause-remainder c message = crc7_where message c.args.crc c.args.bit false c.if-crc-bit.false c.requires

pub returns-else-crc-bit-clause-degree : goal.returns-else-crc-bit-clause-degree
returns-else-crc-bit-clause-degree c = small_where c.args.crc c.args.bit false c.if-crc-bit.false c.requires
