use Rattle.std.proofs.Common.{subst, sym, []}
use Rattle.sdv_audit.specs.Standing.{Covers}
use Rattle.sdv_audit.specs.Lived.{LivedFor}
use Rattle.sdv_card.specs.Lists.{May}
use Rattle.sdv_audit.proofs.Sound.{start_covers}
use Rattle.sdv_audit.proofs.Living.{start_lives}
use Rattle.sdv_audit.proofs.audit.Audit.new.Goals as goal

pub returns-clause-stands : goal.returns-clause-stands
returns-clause-stands c = record {
  known = c.nothing.ensures;
  covers = subst (λ v. Covers c.args.kind [] v) (sym c.in_ok-from_slice.ensures.items) (start_covers c.args.kind);
  lived = λ e s m.
      subst (λ v. LivedFor c.args.kind [] v.announced s) (sym c.nothing.ensures)
      (start_lives c.args.kind s (subst (λ v. May v s) c.in_ok-from_slice.ensures.items m));
}
