use Rattle.std.proofs.Common.{ℕ, ◌<◌}
use Rattle.sdv_table.specs.Loading.{IsPoint}
use Rattle.sdv_table.proofs.loading.points_are_right.Given as goal

abbrev pub invariant-loop-point : goal.invariant-loop-point
invariant-loop-point l = (i : ℕ) → i < l.point → IsPoint l.words i
