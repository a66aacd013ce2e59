use Rattle.std.proofs.Common.{◌≡◌, vec_len, map}
use Rattle.sdv_graph.specs.Tree.{nothing, statements_of, statement_of}
use Rattle.sdv_script.specs.InRow.{in_row}
use Rattle.sdv_script.proofs.blocks.in_row.Given as goal

-- the statements that are left, before those in the row, are all
abbrev pub invariant-loop-last : goal.invariant-loop-last
invariant-loop-last l = in_row (map statement_of l.statements.items) (statements_of l.row) ≡ in_row (map statement_of l.initial.statements.items) nothing

abbrev pub decreases-loop-last : goal.decreases-loop-last
decreases-loop-last l = vec_len l.statements
