use Rattle.std.proofs.Common.{rules}
use Rattle.sdv_card.proofs.state_table.takes.taken_as.Goals as goal

pub returns-in_default : goal.returns-in_default
returns-in_default c = search rules

pub returns-in-SetBusWidth : goal.returns-in-SetBusWidth
returns-in-SetBusWidth c = search rules
