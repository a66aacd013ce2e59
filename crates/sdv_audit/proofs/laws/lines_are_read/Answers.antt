use Rattle.sdv_audit.proofs.Printed.{lines_are_read}
use Rattle.sdv_audit.proofs.laws.lines_are_read.Goals as goal

pub returns : goal.returns
returns c = lines_are_read
