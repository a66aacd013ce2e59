use Rattle.std.proofs.Common.{rules}
use Rattle.sdv_registers.proofs.ocr.Ocr.is_powered_up.Goals as goal

pub returns : goal.returns
returns c = search rules
