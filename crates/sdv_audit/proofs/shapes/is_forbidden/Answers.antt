use Rattle.std.proofs.Common.{◌≡◌, inl, inr, subst, sym, ◌∙◌, not, true, false, refl}
use Rattle.sdv_card.specs.Lists.{May}
use Rattle.sdv_card.specs.LegalShapes.{legal_code}
use Rattle.sdv_card.proofs.Distinct.{May-at}
use Rattle.sdv_audit.specs.Turns.{event_at}
use Rattle.sdv_audit.proofs.ShapeSets.{more, whole}
use Rattle.sdv_audit.proofs.shapes.is_forbidden.Goals as goal

pub returns-then-not-is_illegal : goal.returns-then-not-is_illegal
returns-then-not-is_illegal c = (
  (λ e. absurd (let f : false ≡ true = e in cc)),
  (λ all.
      let here = all _ (May-at c.args.shapes.now c.loop-shape.shape-index _ _ c.loop-shape-test.true refl) in
      let f : true ≡ false = sym here ∙ (sym c.is_illegal.ensures ∙ c.if-not-is_illegal.true) in
      absurd (cc)),
)

pub loop-shape-preserved : goal.loop-shape-preserved
loop-shape-preserved c s m =
    elim ((more c.args.shapes.now c.loop-shape.shape-index _ s c.loop-shape-test.true).0 m) [
      | inl before ↦ c.loop-shape.invariant s before
      | inr e ↦ subst (λ v. not (legal_code c.args.kind v.0 (event_at c.args.deed.now v.0)) ≡ true) e
          (sym c.is_illegal.ensures ∙ c.if-not-is_illegal.false)
    ]

pub returns : goal.returns
returns c = (
  (λ e s m. c.loop-shape.invariant s (subst (λ v. May v s) (sym (whole c.args.shapes.now c.loop-shape.shape-index c.loop-shape-test.false)) m)),
  (λ all. refl),
)
