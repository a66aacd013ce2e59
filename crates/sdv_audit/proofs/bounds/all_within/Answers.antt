use Rattle.std.proofs.Common.{◌≡◌, inl, inr, subst, sym, ◌∙◌, true, false, refl}
use Rattle.sdv_card.specs.Lists.{May}
use Rattle.sdv_card.proofs.Distinct.{May-at}
use Rattle.sdv_audit.specs.Lived.{turn_within}
use Rattle.sdv_audit.proofs.ShapeSets.{more, whole}
use Rattle.sdv_audit.proofs.bounds.all_within.Goals as goal

pub returns-then-not-turn_within : goal.returns-then-not-turn_within
returns-then-not-turn_within c = (
  (λ e. absurd (let f : false ≡ true = e in cc)),
  (λ all.
      let here = all _ (May-at c.args.shapes.now c.loop-shape.shape-index _ _ c.loop-shape-test.true refl) in
      let f : true ≡ false = sym here ∙ (sym c.turn_within.ensures ∙ c.if-not-turn_within.true) in
      absurd (cc)),
)

pub loop-shape-preserved : goal.loop-shape-preserved
loop-shape-preserved c s m =
    elim ((more c.args.shapes.now c.loop-shape.shape-index _ s c.loop-shape-test.true).0 m) [
      | inl before ↦ c.loop-shape.invariant s before
      | inr e ↦ subst (λ v. turn_within c.args.kind c.args.turn.now c.args.line.now v.0 ≡ true) e (sym c.turn_within.ensures ∙ c.if-not-turn_within.false)
    ]

pub returns : goal.returns
returns c = (
  (λ e s m. c.loop-shape.invariant s (subst (λ v. May v s) (sym (whole c.args.shapes.now c.loop-shape.shape-index c.loop-shape-test.false)) m)),
  (λ all. refl),
)
