use Rattle.std.proofs.Common.{rules}
use Rattle.sdv_card.proofs.state_table.phases.give_legal.Goals as goal

pub returns-in-Rcv-WriteDue : goal.returns-in-Rcv-WriteDue
returns-in-Rcv-WriteDue c = search rules
