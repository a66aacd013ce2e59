use Rattle.std.proofs.Common.{rules}
use Rattle.sdv_facts.proofs.setting.atom_facts.Goals as goal

pub returns-after-kind-clause-facts : goal.returns-after-kind-clause-facts
returns-after-kind-clause-facts c = search rules

pub returns-in-ExtBoot-clause-facts : goal.returns-in-ExtBoot-clause-facts
returns-in-ExtBoot-clause-facts c = search rules
