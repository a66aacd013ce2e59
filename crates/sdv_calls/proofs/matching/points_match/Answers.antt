use Rattle.std.proofs.Common.{sym, ◌∙◌, arith, refl}
use Rattle.sdv_graph.specs.Graph.{seen_point}
use Rattle.sdv_facts.specs.Closed.{PointMatches}
use Rattle.sdv_facts.specs.Shared.{point_in, points_in}
use Rattle.sdv_check.proofs.CheckLaws.{Here, as_many, point_there, facts_at, below_next, match_all, match_not}
use Rattle.sdv_calls.proofs.matching.points_match.Goals as goal

pub returns-then-not-point_matches : goal.returns-then-not-point_matches
returns-then-not-point_matches c sets =
    let points = c.args.points.now in
    let q = c.index-points-number.result in
    let there = point_there points c.loop-number.number q (omega arith) c.index-points-number.is in
    let h : Here c.args.graph.now.points (points_in sets points) c.loop-number.number (seen_point c.point.result.now) (point_in sets q) =
    record { here = c.point.ensures; known = facts_at sets points (points_in sets points) c.loop-number.number q refl there } in
    match_not c.args.graph.now (points_in sets points) c.loop-number.number (seen_point c.point.result.now) (point_in sets q) c.point_matches.result h
    (c.point_matches.ensures sets) c.if-not-point_matches.true

pub loop-number-preserved : goal.loop-number-preserved
loop-number-preserved c sets =
    let points = c.args.points.now in
    let q = c.index-points-number.result in
    let there = point_there points c.loop-number.number q (omega arith) c.index-points-number.is in
    let h : Here c.args.graph.now.points (points_in sets points) c.loop-number.number (seen_point c.point.result.now) (point_in sets q) =
    record { here = c.point.ensures; known = facts_at sets points (points_in sets points) c.loop-number.number q refl there } in
    below_next (PointMatches c.args.graph.now) c.args.graph.now.points (points_in sets points) c.loop-number.number (seen_point c.point.result.now) (point_in sets q) h
    (c.loop-number.invariant sets) ((c.point_matches.ensures sets).0 c.if-not-point_matches.false)

pub returns : goal.returns
returns c sets =
    match_all c.args.graph.now (points_in sets c.args.points.now)
    (sym (as_many sets c.args.points.now (points_in sets c.args.points.now) refl) ∙ c.if-points-len.false ∙ c.len.ensures)
    (λ i place p lt. c.loop-number.invariant sets i place p (omega arith))
