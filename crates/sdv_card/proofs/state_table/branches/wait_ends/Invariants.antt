use Rattle.std.proofs.Common.{◌≡◌, ◌+◌, ◌++◌, take, map}
use Rattle.arrayvec.specs.ArrayVec.{array_vec_len}
use Rattle.sdv_card.specs.Outcomes.{branch}
use Rattle.sdv_card.proofs.state_table.branches.wait_ends.Given as goal

abbrev pub invariant-loop-state : goal.invariant-loop-state
invariant-loop-state l = record {
  items : l.all.items ≡ l.initial.all.items ++ map (λ state. branch (record l.fields { state = state }) l.seen) (take l.state-index l.states);
  len : array_vec_len l.all ≡ array_vec_len l.initial.all + l.state-index;
}
