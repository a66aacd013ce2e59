use Rattle.std.proofs.Common.{rules}
use Rattle.sdv_card.proofs.state_table.rows.taken.Goals as goal

pub returns-in-Cmd1 : goal.returns-in-Cmd1
returns-in-Cmd1 g c = search rules

pub returns-in-Cmd6 : goal.returns-in-Cmd6
returns-in-Cmd6 g c = search rules

pub returns-in-Cmd16 : goal.returns-in-Cmd16
returns-in-Cmd16 g c = search rules
