use Rattle.std.proofs.Common.{rules}
use Rattle.sdv_behavior.proofs.phases.on_lines.Goals as goal

pub returns : goal.returns
returns c = search rules
