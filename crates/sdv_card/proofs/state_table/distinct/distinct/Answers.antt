use Rattle.std.proofs.Common.{inl, inr, arith}
use Rattle.sdv_card.proofs.Distinct.{more_outcomes, outcome_is}
use Rattle.sdv_card.proofs.state_table.distinct.distinct.Goals as goal

pub loop-branch-preserved : goal.loop-branch-preserved
loop-branch-preserved c = record {
  members = λ o.
      let more = more_outcomes c.args.branches.now c.loop-branch.branch-index _ _ o c.loop-branch-test.true
      (outcome_is c.encode.result _ c.encode.ensures.code) in (
        (λ m. more.1 (elim ((c.add.ensures.members o).0 m) [ inl k ↦ inl ((c.loop-branch.invariant.members o).0 k) | inr e ↦ inr e ])),
        (λ m. (c.add.ensures.members o).1 (elim (more.0 m) [ inl k ↦ inl ((c.loop-branch.invariant.members o).1 k) | inr e ↦ inr e ])),
      );
  once = c.add.ensures.once c.loop-branch.invariant.once;
  few = omega (arith, c.add.ensures.few);
}
