use Rattle.std.proofs.Common.{rules}
use Rattle.sdv_registers.proofs.ocr.Ocr.is_block_addressed.Goals as goal

pub returns-in-Emmc : goal.returns-in-Emmc
returns-in-Emmc c = search rules
