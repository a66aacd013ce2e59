use Rattle.std.proofs.Common.{rules}
use Rattle.sdv_image.proofs.mem_image.MemImage.from_bytes.Goals as goal

pub returns : goal.returns
returns c = search rules
