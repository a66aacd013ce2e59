use Rattle.std.proofs.Common.{subst}
use Rattle.sdv_facts.specs.Shared.{HasSetsOf}
use Rattle.sdv_facts.proofs.SharedLaws.{has_sets, table_seen}
use Rattle.sdv_facts.proofs.certificate.Certificate.table.Goals as goal

pub returns-clause-table : goal.returns-clause-table
returns-clause-table c = table_seen c.self.inside.table c.self.inside.version _ _ c.self.invariant.0 c.self.view_is

pub returns-clause-sets : goal.returns-clause-sets
returns-clause-sets c = subst (λ x. HasSetsOf c.self.inside.table x.points) c.self.view_is
    (has_sets c.self.inside.table c.self.inside.points.items c.self.invariant.0.named)
