use Rattle.std.proofs.Common.{◌≡◌, ◌≤◌}
use Rattle.sdv_graph.specs.Tree.{statements_of, ways_of, statement_of}
use Rattle.sdv_graph.specs.Moves.{ways_moves}
use Rattle.sdv_certify.specs.Spans.{either, spans_ways}
use Rattle.sdv_graph.proofs.Sizes.{statements_size, ways_size, statement_size}
use Rattle.sdv_certify.proofs.spans.+spans.Given as goal

abbrev pub decreases-block_spans : goal.decreases-block_spans
decreases-block_spans l = statements_size (statements_of l.block.now)

abbrev pub decreases-cases_spans : goal.decreases-cases_spans
decreases-cases_spans l = ways_size (ways_of l.cases.now)

abbrev pub decreases-stmt_spans : goal.decreases-stmt_spans
decreases-stmt_spans l = statement_size (statement_of l.stmt.now)

-- the spans so far, or those of the rest, are those of all
abbrev pub invariant-cases_spans-loop-rest : goal.invariant-cases_spans-loop-rest
invariant-cases_spans-loop-rest l = record {
  same : either l.spans (spans_ways (ways_of l.rest)) ≡ spans_ways (ways_of l.cases);
  small : ways_size (ways_of l.rest) ≤ ways_size (ways_of l.cases);
  few : ways_moves (ways_of l.rest) ≤ ways_moves (ways_of l.cases);
}

abbrev pub decreases-cases_spans-loop-rest : goal.decreases-cases_spans-loop-rest
decreases-cases_spans-loop-rest l = ways_size (ways_of l.rest)
