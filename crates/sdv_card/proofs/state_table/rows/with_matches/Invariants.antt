use Rattle.std.proofs.Common.{◌≡◌, ◌≤◌, ◌+◌, ◌*◌, ◌++◌, take}
use Rattle.arrayvec.specs.ArrayVec.{array_vec_len}
use Rattle.sdv_card.specs.Outcomes.{with_matches}
use Rattle.sdv_card.proofs.state_table.rows.with_matches.Given as goal

abbrev pub invariant-loop-matched : goal.invariant-loop-matched
invariant-loop-matched l = record {
  items : l.all.items ≡ l.initial.all.items ++ with_matches l.card (take l.matched-index l.matches) l.presets;
  few : array_vec_len l.all ≤ array_vec_len l.initial.all + 2 * l.matched-index;
}
