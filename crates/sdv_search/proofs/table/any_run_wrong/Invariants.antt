use Rattle.std.proofs.Common.{◌≡◌, drop}
use Rattle.sdv_search.specs.Table.{any_run_wrong}
use Rattle.sdv_search.proofs.table.any_run_wrong.Given as goal

-- none of the runs before does
abbrev pub invariant-loop-cell : goal.invariant-loop-cell
invariant-loop-cell l = any_run_wrong (drop l.cell-index l.cells) ≡ any_run_wrong l.cells
