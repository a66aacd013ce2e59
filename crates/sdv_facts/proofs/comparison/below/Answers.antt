use Rattle.std.proofs.Common.{rules}
use Rattle.sdv_facts.proofs.comparison.below.Goals as goal

pub returns-clause-rule : goal.returns-clause-rule
returns-clause-rule c = search rules
