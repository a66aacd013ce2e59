use Rattle.std.proofs.Common.{◌≡◌, sym, subst, ◌∙◌, true, false}
use Rattle.sdv_card.specs.Lists.{May, AreDistinct}
use Rattle.sdv_card.proofs.Distinct.{May-push, May-push_cases, AreDistinct-push}
use Rattle.sdv_card.proofs.state_table.distinct.add.Goals as goal

pub returns-then-not-has-clause-members : goal.returns-then-not-has-clause-members
returns-then-not-has-clause-members c o = (
  (λ m. May-push_cases c.args.all.now.items c.args.outcome o (subst (λ v. May v o) c.push.ensures.items m)),
  (λ m. subst (λ v. May v o) (sym c.push.ensures.items) (May-push c.args.all.now.items c.args.outcome o m)),
)

pub returns-then-not-has-clause-once : goal.returns-then-not-has-clause-once
returns-then-not-has-clause-once c d =
    subst (λ v. AreDistinct v) (sym c.push.ensures.items)
    (AreDistinct-push c.args.all.now.items c.args.outcome d
    (λ m. let f : true ≡ false = sym (c.has.ensures.1 (subst (λ v. May v c.args.outcome) (sym c.as_slice.ensures.value) m)) ∙ c.if-not-has.true in cc))
