use Rattle.std.proofs.Common.{◌≡◌, ◌↔◌, sym, subst, false, true, [], ◌∷◌, refl}
use Rattle.sdv_card.specs.Lists.{May}
use Rattle.sdv_audit.specs.AnyShape.{any_shapes}
use Rattle.sdv_audit.specs.Standing.{Covers}
use Rattle.sdv_audit.specs.Audited.{running_told}
use Rattle.sdv_audit.proofs.FindingLaws.{any_state_stands}
use Rattle.sdv_audit.proofs.audit.Audit.any_state.Goals as goal

pub returns-clause-stands : goal.returns-clause-stands
returns-clause-stands c = record {
  known = c.running.ensures;
  covers = subst (λ v. Covers c.args.kind (running_told c.args.rca c.args.lines ∷ []) v) (sym c.in_ok-shapes.ensures)
      (any_state_stands c.args.kind c.args.rca c.args.lines).covers;
  lived = λ e s m. absurd (let f : false ≡ true = e in cc);
}

pub returns-clause-course : goal.returns-clause-course
returns-clause-course c = record {
  known = c.running.ensures;
  shapes = λ s. subst (λ v. May v s ↔ May (any_shapes c.args.kind c.args.lines) s) (sym c.in_ok-shapes.ensures) ((λ m. m), (λ m. m));
  bounded = refl;
  running = refl;
}
