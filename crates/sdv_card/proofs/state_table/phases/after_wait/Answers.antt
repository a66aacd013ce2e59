use Rattle.std.proofs.Common.{rules}
use Rattle.sdv_card.proofs.state_table.phases.after_wait.Goals as goal

pub returns-in-Prg-Late-clause-states : goal.returns-in-Prg-Late-clause-states
returns-in-Prg-Late-clause-states c = search rules
