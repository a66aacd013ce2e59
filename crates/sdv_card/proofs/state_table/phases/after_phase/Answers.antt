use Rattle.std.proofs.Common.{rules}
use Rattle.sdv_card.proofs.state_table.phases.after_phase.Goals as goal

pub returns-in-WriteDue-Cut-clause-places : goal.returns-in-WriteDue-Cut-clause-places
returns-in-WriteDue-Cut-clause-places c = search rules
