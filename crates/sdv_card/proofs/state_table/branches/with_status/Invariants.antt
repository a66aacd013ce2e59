use Rattle.std.proofs.Common.{◌≡◌, ◌+◌, ◌++◌, take}
use Rattle.arrayvec.specs.ArrayVec.{array_vec_len}
use Rattle.sdv_card.specs.Outcomes.{with_status}
use Rattle.sdv_card.proofs.state_table.branches.with_status.Given as goal

abbrev pub invariant-loop-fields : goal.invariant-loop-fields
invariant-loop-fields l = record {
  items : l.all.items ≡ l.initial.all.items ++ with_status l.row l.doubt l.t (take l.fields-index l.cards);
  len : array_vec_len l.all ≡ array_vec_len l.initial.all + l.fields-index;
}
