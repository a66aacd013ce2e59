use Rattle.std.proofs.Common.{◌≡◌, ◌+◌, ◌++◌, take}
use Rattle.arrayvec.specs.ArrayVec.{array_vec_len}
use Rattle.sdv_card.specs.Outcomes.{with_presets}
use Rattle.sdv_card.proofs.state_table.rows.with_presets.Given as goal

abbrev pub invariant-loop-preset : goal.invariant-loop-preset
invariant-loop-preset g l = record {
  items : l.all.items ≡ l.initial.all.items ++ with_presets l.card (take l.preset-index l.presets);
  len : array_vec_len l.all ≡ array_vec_len l.initial.all + l.preset-index;
}
