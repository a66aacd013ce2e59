use Rattle.std.proofs.Common.{◌∙◌, ap}
use Rattle.sdv_script.proofs.PrintedLaws.{printed_reads}
use Rattle.sdv_driver.specs.Reading.{read_driver}
use Rattle.sdv_driver.proofs.printing.printed_driver.Goals as goal

pub returns : goal.returns
returns c d is small = record { small = small; read = ap read_driver (printed_reads d.text).tokens_same ∙ is.read }
