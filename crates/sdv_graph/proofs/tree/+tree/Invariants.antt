use Rattle.std.proofs.Common.{ℕ, ◌+◌, ◌<◌, Option, Some, None}
use Rattle.sdv_graph.specs.Tree.{statement_of, statements_of, ways_of}
use Rattle.sdv_graph.specs.declared.tree.Block.{Block}
use Rattle.sdv_graph.specs.declared.tree.Cases.{Cases}
use Rattle.sdv_graph.specs.declared.tree.Stmt.{Stmt}
use Rattle.sdv_graph.proofs.Sizes.{statements_size, ways_size, statement_size}
use Rattle.sdv_graph.proofs.tree.+tree.Given as goal

abbrev pub decreases-Block::drop : goal.decreases-Block::drop
decreases-Block::drop l = statements_size (statements_of l.self)

abbrev pub decreases-Cases::drop : goal.decreases-Cases::drop
decreases-Cases::drop l = ways_size (ways_of l.self)

abbrev pub decreases-Stmt::drop : goal.decreases-Stmt::drop
decreases-Stmt::drop l = statement_size (statement_of l.self)

-- what is left of a row
abbrev pub statements_left : Option (Stmt × Block) → ℕ
statements_left None = 0
statements_left (Some x) = statement_size (statement_of x.0) + statements_size (statements_of x.1)

abbrev pub cases_left : Option Cases → ℕ
cases_left None = 0
cases_left (Some cases) = ways_size (ways_of cases)

abbrev pub invariant-Block::drop-loop-row : goal.invariant-Block::drop-loop-row
invariant-Block::drop-loop-row l = statements_left l.row < statements_size (statements_of l.fn.self)

abbrev pub decreases-Block::drop-loop-row : goal.decreases-Block::drop-loop-row
decreases-Block::drop-loop-row l = statements_left l.row

abbrev pub invariant-Cases::drop-loop-row : goal.invariant-Cases::drop-loop-row
invariant-Cases::drop-loop-row l = cases_left l.row < ways_size (ways_of l.fn.self)

abbrev pub decreases-Cases::drop-loop-row : goal.decreases-Cases::drop-loop-row
decreases-Cases::drop-loop-row l = cases_left l.row
