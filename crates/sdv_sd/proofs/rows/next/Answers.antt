use Rattle.std.proofs.Common.{rules}
use Rattle.sdv_sd.proofs.rows.next.Goals as goal

pub returns-in-Cmd12-Rcv : goal.returns-in-Cmd12-Rcv
returns-in-Cmd12-Rcv c = search rules
