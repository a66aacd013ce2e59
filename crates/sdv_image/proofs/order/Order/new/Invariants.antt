use Rattle.std.proofs.Common.{◌≡◌, ◌<◌, ◌≤◌, ℕ, All, count_by, eqb}
use Rattle.arrayvec.specs.ArrayVec.{array_vec_len}
use Rattle.sdv_image.proofs.order.Order.new.Given as goal

abbrev pub invariant-loop-index : goal.invariant-loop-index
invariant-loop-index l = record {
  count : array_vec_len l.indexes ≡ l.index;
  known : All (λ index. index < 16) l.indexes.items;
  once : (i : ℕ) → i < l.index → count_by (λ other. eqb other i) l.indexes.items ≡ 1;
  none : (i : ℕ) → l.index ≤ i → count_by (λ other. eqb other i) l.indexes.items ≡ 0;
}
