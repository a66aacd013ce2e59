use Rattle.std.proofs.Common.{rules}
use Rattle.sdv_emmc.proofs.rows.next.Goals as goal

pub returns-in-Cmd6-Tran : goal.returns-in-Cmd6-Tran
returns-in-Cmd6-Tran c = search rules
