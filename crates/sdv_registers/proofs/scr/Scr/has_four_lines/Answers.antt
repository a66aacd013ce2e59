use Rattle.std.proofs.Common.{rules}
use Rattle.sdv_registers.proofs.scr.Scr.has_four_lines.Goals as goal

pub returns : goal.returns
returns c = search rules
