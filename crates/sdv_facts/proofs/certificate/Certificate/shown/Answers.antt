use Rattle.std.proofs.Common.{rules}
use Rattle.sdv_facts.proofs.SharedLaws.{table_seen}
use Rattle.sdv_facts.proofs.certificate.Certificate.shown.Goals as goal

pub returns-clause-table : goal.returns-clause-table
returns-clause-table c = table_seen c.self.inside.table c.self.inside.version _ _ c.self.invariant.0 c.self.view_is

pub returns-clause-value : goal.returns-clause-value
returns-clause-value c = search rules
