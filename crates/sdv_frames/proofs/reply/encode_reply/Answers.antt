use Rattle.std.proofs.Common.{false, arith, ap, ◌∙◌}
use Rattle.sdv_frames.specs.Bits.{bits_of}
use Rattle.sdv_frames.proofs.FrameLaws.{reply_byte, sealed_frame}
use Rattle.sdv_frames.proofs.ReplyLaws.{ones_frame}
use Rattle.sdv_frames.proofs.reply.encode_reply.Goals as goal

pub returns-in-R1 : goal.returns-in-R1
returns-in-R1 c =
    rw (c.in-R1.is, c.of_six.ensures)
    (sealed_frame false c.in-R1.index c.in-R1.status c.in-R1.index (bits_of c.sealed.result)
    (reply_byte c.in-R1.index (rw c.in-R1.is at c.requires)) c.sealed.ensures)

pub returns-in-R3 : goal.returns-in-R3
returns-in-R3 c = rw c.in-R3.is (ones_frame c.in-R3.ocr (bits_of c.of_six-in-R3.result.items) (ap bits_of c.of_six-in-R3.ensures ∙ c.frame_of.ensures))

pub returns-in-R6 : goal.returns-in-R6
returns-in-R6 c =
    rw (c.in-R6.is, c.of_six-in-R6.ensures)
    (sealed_frame false 3 c.in-R6.word 3 (bits_of c.sealed-in-R6.result) (reply_byte 3 (omega arith)) c.sealed-in-R6.ensures)

pub returns-in-R7 : goal.returns-in-R7
returns-in-R7 c =
    rw (c.in-R7.is, c.of_six-in-R7.ensures)
    (sealed_frame false 8 c.in-R7.word 8 (bits_of c.sealed-in-R7.result) (reply_byte 8 (omega arith)) c.sealed-in-R7.ensures)
