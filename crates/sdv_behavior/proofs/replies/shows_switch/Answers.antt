use Rattle.std.proofs.Common.{rules}
use Rattle.sdv_behavior.proofs.replies.shows_switch.Goals as goal

pub returns-in-Cmd13 : goal.returns-in-Cmd13
returns-in-Cmd13 c = search rules
