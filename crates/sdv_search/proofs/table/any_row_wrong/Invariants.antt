use Rattle.std.proofs.Common.{◌≡◌, drop}
use Rattle.sdv_search.specs.Table.{any_row_wrong}
use Rattle.sdv_search.proofs.table.any_row_wrong.Given as goal

-- none of the rows before does
abbrev pub invariant-loop-row : goal.invariant-loop-row
invariant-loop-row l = any_row_wrong (drop l.row-index l.rows) ≡ any_row_wrong l.rows
