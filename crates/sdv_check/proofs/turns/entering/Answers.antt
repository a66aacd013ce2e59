use Rattle.std.proofs.Common.{rules}
use Rattle.sdv_check.proofs.turns.entering.Goals as goal

pub returns-in-Some-Some-clause-cost : goal.returns-in-Some-Some-clause-cost
returns-in-Some-Some-clause-cost c = search rules
