use Rattle.std.proofs.Common.{◌≡◌, ◌≤◌, ◌+◌, max}
use Rattle.sdv_graph.specs.Tree.{statements_of, ways_of, statement_of}
use Rattle.sdv_graph.proofs.Sizes.{statements_size, ways_size, statement_size}
use Rattle.sdv_review.specs.Given.{most_of_ways}
use Rattle.sdv_review.proofs.given.+given.Given as goal

abbrev pub decreases-most_of_block : goal.decreases-most_of_block
decreases-most_of_block l = statements_size (statements_of l.block.now)

abbrev pub decreases-most_of_cases : goal.decreases-most_of_cases
decreases-most_of_cases l = ways_size (ways_of l.cases.now)

abbrev pub decreases-most_of_both : goal.decreases-most_of_both
decreases-most_of_both l = 1 + statements_size (statements_of l.a.now) + statements_size (statements_of l.b.now)

abbrev pub decreases-most_of_stmt : goal.decreases-most_of_stmt
decreases-most_of_stmt l = statement_size (statement_of l.stmt.now)

-- the most so far, or that of the rest, is that of all
abbrev pub invariant-most_of_cases-loop-rest : goal.invariant-most_of_cases-loop-rest
invariant-most_of_cases-loop-rest l = record {
  same : max l.most (most_of_ways (ways_of l.rest)) ≡ most_of_ways (ways_of l.cases);
  small : ways_size (ways_of l.rest) ≤ ways_size (ways_of l.cases);
}

abbrev pub decreases-most_of_cases-loop-rest : goal.decreases-most_of_cases-loop-rest
decreases-most_of_cases-loop-rest l = ways_size (ways_of l.rest)
