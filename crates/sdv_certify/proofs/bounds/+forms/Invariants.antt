use Rattle.sdv_graph.specs.Tree.{statements_of, ways_of, statement_of}
use Rattle.std.proofs.Common.{◌+◌, map, vec_len}
use Rattle.sdv_certify.proofs.RowLaws.{RowLeft}
use Rattle.sdv_graph.proofs.Sizes.{statements_size, ways_size, statement_size}
use Rattle.sdv_certify.proofs.bounds.+forms.Given as goal

abbrev pub decreases-put_block : goal.decreases-put_block
decreases-put_block l = statements_size (statements_of l.block.now)

abbrev pub decreases-put_cases : goal.decreases-put_cases
decreases-put_cases l = ways_size (ways_of l.cases.now)

abbrev pub decreases-put_stmt : goal.decreases-put_stmt
decreases-put_stmt l = statement_size (statement_of l.stmt.now)

abbrev pub decreases-put_both : goal.decreases-put_both
decreases-put_both l = 1 + statements_size (statements_of l.a.now) + statements_size (statements_of l.b.now)

abbrev pub decreases-put_loop : goal.decreases-put_loop
decreases-put_loop l = 1 + statements_size (statements_of l.a.now) + statements_size (statements_of l.b.now)

abbrev pub invariant-put_cases-loop-block : goal.invariant-put_cases-loop-block
invariant-put_cases-loop-block l =
    RowLeft (ways_size (ways_of l.cases)) l.after l.out (ways_of l.cases) l.initial.forms.items
    (map (λ b. statements_of b.now) l.blocks.items) l.before l.forms.items

abbrev pub decreases-put_cases-loop-block : goal.decreases-put_cases-loop-block
decreases-put_cases-loop-block l = vec_len l.blocks
