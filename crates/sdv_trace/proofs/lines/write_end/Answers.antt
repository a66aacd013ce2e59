use Rattle.std.proofs.Common.{rules}
use Rattle.sdv_trace.proofs.lines.write_end.Goals as goal

pub returns : goal.returns
returns g c = search rules
