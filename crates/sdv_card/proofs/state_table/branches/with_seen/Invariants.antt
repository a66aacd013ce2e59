use Rattle.std.proofs.Common.{◌≡◌, ◌+◌, ◌++◌, take}
use Rattle.arrayvec.specs.ArrayVec.{array_vec_len}
use Rattle.sdv_card.specs.Outcomes.{with_seen}
use Rattle.sdv_card.proofs.state_table.branches.with_seen.Given as goal

abbrev pub invariant-loop-fields : goal.invariant-loop-fields
invariant-loop-fields l = record {
  items : l.all.items ≡ l.initial.all.items ++ with_seen l.seen (take l.fields-index l.cards);
  len : array_vec_len l.all ≡ array_vec_len l.initial.all + l.fields-index;
}
