-- What is sent is counted within the moves.
use Rattle.std.proofs.Common.{rules, ◌≡◌, ◌<◌, ◌^◌, ◌*◌, ◌+◌, ◌≤◌, ap, ◌∙◌, subst, arith}
use Rattle.std.proofs.Math.Nat.{mul-le-mul_left}
use Rattle.sdv_graph.specs.Tree.{statements_of, ways_of, statement_of}
use Rattle.sdv_graph.specs.Moves.{statements_moves, ways_moves, statement_moves}
use Rattle.sdv_certify.specs.Spans.{either, longest, spans_statements, spans_ways, spans_statement}
use Rattle.sdv_graph.proofs.Sizes.{ways_size}
use Rattle.sdv_certify.proofs.SpanRows.{spans_assoc}
use Rattle.sdv_certify.proofs.SpanLaws.{longest_statements, longest_ways, longest_statement}
use Rattle.sdv_certify.proofs.spans.+spans.Goals as goal

pub block_spans-seq-requires : goal.block_spans-seq-requires
block_spans-seq-requires t c =
    let s = statement_of c.in-Then.stmt in
    let r = statements_of c.in-Then.rest.value in
    let m : statement_moves s + statements_moves r < 2 ^ 128 = subst (λ b. statements_moves (statements_of b) < 2 ^ 128) c.in-Then.is c.requires in
    let e : c.stmt_spans.result ≡ spans_statement s = c.stmt_spans.ensures in
    let f : c.block_spans.result ≡ spans_statements r = search in
    rw (e, f) (omega (arith, longest_statement s, longest_statements r, m))

pub stmt_spans-later-requires : goal.stmt_spans-later-requires
stmt_spans-later-requires t c =
    let w = ways_of c.in-Send.cases in
    let m : 1 + ways_moves w < 2 ^ 128 = subst (λ s. statement_moves (statement_of s) < 2 ^ 128) c.in-Send.is c.requires in
    let e : c.cases_spans.result ≡ spans_ways w = c.cases_spans.ensures in
    rw e (omega (arith, longest_ways w, m))

pub stmt_spans-all_turns-requires : goal.stmt_spans-all_turns-requires
stmt_spans-all_turns-requires t c =
    let n = c.in-Loop.turns in
    let a = statements_of c.in-Loop.a.value in
    let b = statements_of c.in-Loop.b.value in
    let m : 1 + (n * (1 + statements_moves a) + statements_moves a + statements_moves b) < 2 ^ 128 =
    subst (λ s. statement_moves (statement_of s) < 2 ^ 128) c.in-Loop.is c.requires in
    let e : c.block_spans-in-Loop.result ≡ spans_statements a = search in
    let f : c.block_spans-in-Loop-2.result ≡ spans_statements b = search in
    let l = longest_statements a in
    let g : longest (spans_statements a) ≤ 1 + statements_moves a = omega (arith, l) in
    rw (e, f) (omega (arith, mul-le-mul_left n g, l, longest_statements b, m))

pub cases_spans-loop-rest-preserved : goal.cases_spans-loop-rest-preserved
cases_spans-loop-rest-preserved t c =
    let b = statements_of c.in-Case.block.value in
    let r = ways_of c.in-Case.others.value in
    let e : c.block_spans-in-Case.result ≡ spans_statements b = search rules in
    let f : spans_ways (ways_of c.deref-rest.result.now) ≡ spans_ways r = ap (λ w. spans_ways (ways_of w)) c.deref-rest.ensures in
    let whole = subst (λ w. either c.loop-rest.spans (spans_ways (ways_of w))
    ≡ spans_ways (ways_of c.args.cases.now)) c.in-Case.is c.loop-rest.invariant.same in
    let size = subst (λ w. ways_size (ways_of w) ≤ ways_size (ways_of c.args.cases.now)) c.in-Case.is c.loop-rest.invariant.small in
    let moves = subst (λ w. ways_moves (ways_of w) ≤ ways_moves (ways_of c.args.cases.now)) c.in-Case.is c.loop-rest.invariant.few in
    record {
      same =
          ap (λ u. either u (spans_ways (ways_of c.deref-rest.result.now))) (c.either-spans.ensures ∙ ap (either c.loop-rest.spans) e)
          ∙ ap (either (either c.loop-rest.spans (spans_statements b))) f
          ∙ spans_assoc c.loop-rest.spans (spans_statements b) (spans_ways r)
          ∙ whole;
      small = rw c.deref-rest.ensures (omega (arith, size));
      few = rw c.deref-rest.ensures (omega (arith, moves));
    }

pub stmt_spans-returns-in-Send : goal.stmt_spans-returns-in-Send
stmt_spans-returns-in-Send t c = search rules
