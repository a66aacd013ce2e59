use Rattle.std.proofs.Common.{◌≤◌, take, map, ◌↔◌}
use Rattle.arrayvec.specs.ArrayVec.{array_vec_len}
use Rattle.sdv_card.specs.declared.event.Outcome.{Outcome}
use Rattle.sdv_card.specs.Lists.{May, AreDistinct}
use Rattle.sdv_card.specs.Outcomes.{outcome_of}
use Rattle.sdv_card.proofs.state_table.distinct.distinct.Given as goal

abbrev pub invariant-loop-branch : goal.invariant-loop-branch
invariant-loop-branch l = record {
  members : (o : Outcome) → May l.all.items o ↔ May (map outcome_of (take l.branch-index l.branches)) o;
  once : AreDistinct l.all.items;
  few : array_vec_len l.all ≤ l.branch-index;
}
