use Rattle.std.proofs.Common.{rules}
use Rattle.sdv_frames.proofs.reply.register_of.Goals as goal

pub returns : goal.returns
returns c = search rules
