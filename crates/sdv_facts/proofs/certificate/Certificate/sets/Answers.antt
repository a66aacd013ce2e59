use Rattle.std.proofs.Common.{rules, length, ap}
use Rattle.sdv_facts.proofs.SharedLaws.{table_seen}
use Rattle.sdv_facts.proofs.certificate.Certificate.sets.Goals as goal

pub returns : goal.returns
returns c = search (rules, ap length (table_seen c.self.inside.table c.self.inside.version _ _ c.self.invariant.0 c.self.view_is))
