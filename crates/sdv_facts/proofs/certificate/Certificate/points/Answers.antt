use Rattle.std.proofs.Common.{rules}
use Rattle.sdv_facts.proofs.SharedLaws.{points_seen, named_seen}
use Rattle.sdv_facts.proofs.certificate.Certificate.points.Goals as goal

pub returns-clause-value : goal.returns-clause-value
returns-clause-value c = search (rules, points_seen c.self.inside.table c.self.inside.version c.self.inside.points.items)

pub returns-clause-named : goal.returns-clause-named
returns-clause-named c = search (rules, named_seen c.self.inside.table c.self.inside.version c.self.inside.points.items)
