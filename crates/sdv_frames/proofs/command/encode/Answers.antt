use Rattle.std.proofs.Common.{true}
use Rattle.sdv_frames.proofs.FrameLaws.{command_byte, sealed_frame}
use Rattle.sdv_frames.proofs.command.encode.Goals as goal

pub returns : goal.returns
returns c = sealed_frame true c.args.command.index c.args.command.argument _ _ (command_byte c.args.command.index c.requires) c.sealed.ensures
