use Rattle.std.proofs.Common.{rules}
use Rattle.sdv_facts.proofs.statement.legal_at.Goals as goal

pub returns-in-Phase : goal.returns-in-Phase
returns-in-Phase g c = search rules
