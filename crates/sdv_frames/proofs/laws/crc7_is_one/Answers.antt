use Rattle.sdv_frames.proofs.CrcLaws.{one_crc7}
use Rattle.sdv_frames.proofs.Spelled.{each_crc7}
use Rattle.sdv_frames.proofs.laws.crc7_is_one.Goals as goal

pub returns : goal.returns
returns c = record { each = each_crc7; one = one_crc7 }
