use Rattle.sdv_frames.proofs.ByteLaws.{bits-last}
use Rattle.sdv_frames.proofs.seal.last_byte.Goals as goal

pub returns : goal.returns
returns c = bits-last c.args.crc c.requires
