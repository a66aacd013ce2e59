use Rattle.std.proofs.Common.{rules}
use Rattle.sdv_frames.proofs.layout.Layout.of_reply.Goals as goal

pub returns-in-R3 : goal.returns-in-R3
returns-in-R3 c = search rules
