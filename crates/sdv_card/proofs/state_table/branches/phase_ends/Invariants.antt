use Rattle.std.proofs.Common.{◌≡◌, ◌+◌, ◌++◌, take, map}
use Rattle.arrayvec.specs.ArrayVec.{array_vec_len}
use Rattle.sdv_card.specs.Outcomes.{branch, placed}
use Rattle.sdv_card.proofs.state_table.branches.phase_ends.Given as goal

abbrev pub invariant-loop-place : goal.invariant-loop-place
invariant-loop-place l = record {
  items : l.all.items ≡ l.initial.all.items ++ map (λ place. branch (placed l.fields place) l.seen) (take l.place-index l.places);
  len : array_vec_len l.all ≡ array_vec_len l.initial.all + l.place-index;
}
