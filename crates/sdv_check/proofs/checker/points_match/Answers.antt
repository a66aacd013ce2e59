use Rattle.std.proofs.Common.{sym, ◌∙◌, arith}
use Rattle.sdv_graph.specs.Graph.{seen_point}
use Rattle.sdv_facts.specs.Closed.{PointMatches}
use Rattle.sdv_facts.specs.Shared.{point_in}
use Rattle.sdv_check.proofs.CheckLaws.{Here, as_many, point_there, facts_at, below_next, match_all, match_not}
use Rattle.sdv_check.proofs.checker.points_match.Goals as goal

pub returns-then-not-point_matches : goal.returns-then-not-point_matches
returns-then-not-point_matches c =
    let sets = c.shown.result.0.now in
    let points = c.shown.result.1.now in
    let q = c.index-points-number.result in
    let p = point_in sets q in
    let there = point_there points c.loop-number.number q (omega arith) c.index-points-number.is in
    let h : Here c.args.graph.now.points c.args.certificate.now.points c.loop-number.number (seen_point c.point.result.now) p =
    record {
      here = c.point.ensures;
      known = facts_at sets points c.args.certificate.now.points c.loop-number.number q c.shown.ensures.value there;
    } in
    match_not c.args.graph.now c.args.certificate.now.points c.loop-number.number
    (seen_point c.point.result.now) p c.point_matches.result h (c.point_matches.ensures sets) c.if-not-point_matches.true

pub loop-number-preserved : goal.loop-number-preserved
loop-number-preserved c =
    let sets = c.shown.result.0.now in
    let points = c.shown.result.1.now in
    let q = c.index-points-number.result in
    let p = point_in sets q in
    let there = point_there points c.loop-number.number q (omega arith) c.index-points-number.is in
    let h : Here c.args.graph.now.points c.args.certificate.now.points c.loop-number.number (seen_point c.point.result.now) p =
    record {
      here = c.point.ensures;
      known = facts_at sets points c.args.certificate.now.points c.loop-number.number q c.shown.ensures.value there;
    } in
    below_next (PointMatches c.args.graph.now) c.args.graph.now.points c.args.certificate.now.points c.loop-number.number
    (seen_point c.point.result.now) p h
    c.loop-number.invariant ((c.point_matches.ensures sets).0 c.if-not-point_matches.false)

pub returns : goal.returns
returns c =
    match_all c.args.graph.now c.args.certificate.now.points
    (sym (as_many c.shown.result.0.now c.shown.result.1.now c.args.certificate.now.points c.shown.ensures.value) ∙ c.if-points-len.false ∙ c.len.ensures)
    (λ i place p lt. c.loop-number.invariant i place p (omega arith))
