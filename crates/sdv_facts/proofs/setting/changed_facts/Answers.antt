use Rattle.std.proofs.Common.{rules}
use Rattle.sdv_facts.proofs.setting.changed_facts.Goals as goal

pub returns-else-lo-gt-MAX_NUMBER-clause-facts : goal.returns-else-lo-gt-MAX_NUMBER-clause-facts
returns-else-lo-gt-MAX_NUMBER-clause-facts c = search rules
