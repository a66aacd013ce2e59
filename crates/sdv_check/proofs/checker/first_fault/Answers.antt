use Rattle.std.proofs.Common.{subst, arith}
use Rattle.sdv_graph.specs.Graph.{seen_point}
use Rattle.sdv_facts.specs.Closed.{PointClosed, FirstFails}
use Rattle.sdv_facts.specs.Shared.{point_in}
use Rattle.sdv_facts.proofs.SharedLaws.{named_there}
use Rattle.sdv_check.proofs.CheckLaws.{Here, as_many, point_there, facts_at, below_next, fails_here, same_variables, flags_fit}
use Rattle.sdv_check.proofs.checker.first_fault.Goals as goal

pub invariant_of-at : goal.invariant_of-at
invariant_of-at g c =
    let sets = c.shown.result.0.now in
    let points = c.shown.result.1.now in
    let q = c.index-points-number.result in
    let p = point_in sets q in
    let many = as_many sets points c.args.certificate.now.points c.shown.ensures.value in
    let there = point_there points c.loop-number.number q (omega (arith, many, c.requires.matches.count)) c.index-points-number.is in
    let h : Here c.args.graph.now.points c.args.certificate.now.points c.loop-number.number (seen_point c.point.result.now) p =
    record {
      here = c.point.ensures;
      known = facts_at sets points c.args.certificate.now.points c.loop-number.number q c.shown.ensures.value there;
    } in
    record {
      own = named_there sets points c.loop-number.number q c.shown.ensures.shared.named there;
      named = λ i r at. named_there sets points i r c.shown.ensures.shared.named at;
      same = λ i r at. same_variables c.args.graph.now c.args.certificate.now.points c.loop-number.number (seen_point c.point.result.now) p c.requires.matches h i
          (point_in sets r) (facts_at sets points c.args.certificate.now.points i r c.shown.ensures.value at);
    }

pub point_fault-requires-clause-flag : goal.point_fault-requires-clause-flag
point_fault-requires-clause-flag g c = flags_fit c.args.graph.now.points c.loop-number.number (seen_point c.point.result.now) c.requires.limits c.point.ensures

pub returns-in-Some : goal.returns-in-Some
returns-in-Some g c =
    let sets = c.shown.result.0.now in
    let points = c.shown.result.1.now in
    let q = c.index-points-number.result in
    let p = point_in sets q in
    let many = as_many sets points c.args.certificate.now.points c.shown.ensures.value in
    let there = point_there points c.loop-number.number q (omega (arith, many, c.requires.matches.count)) c.index-points-number.is in
    let h : Here c.args.graph.now.points c.args.certificate.now.points c.loop-number.number (seen_point c.point.result.now) p =
    record {
      here = c.point.ensures;
      known = facts_at sets points c.args.certificate.now.points c.loop-number.number q c.shown.ensures.value there;
    } in
    fails_here c.args.graph.now c.args.certificate.now.points c.loop-number.number
    (seen_point c.point.result.now) p c.in-Some.clause h c.loop-number.invariant
    (subst (λ k. FirstFails c.in-Some.clause k c.args.certificate.now.points
    (seen_point c.point.result.now) p) c.requires.kind
    (subst (λ ps. FirstFails c.in-Some.clause g.T.CardTable.kind ps (seen_point c.point.result.now) p) c.shown.ensures.value c.in-Some.ensures))

pub loop-number-preserved : goal.loop-number-preserved
loop-number-preserved g c =
    let sets = c.shown.result.0.now in
    let points = c.shown.result.1.now in
    let q = c.index-points-number.result in
    let p = point_in sets q in
    let many = as_many sets points c.args.certificate.now.points c.shown.ensures.value in
    let there = point_there points c.loop-number.number q (omega (arith, many, c.requires.matches.count)) c.index-points-number.is in
    let h : Here c.args.graph.now.points c.args.certificate.now.points c.loop-number.number (seen_point c.point.result.now) p =
    record {
      here = c.point.ensures;
      known = facts_at sets points c.args.certificate.now.points c.loop-number.number q c.shown.ensures.value there;
    } in
    below_next (PointClosed c.args.graph.now.kind c.args.certificate.now.points) c.args.graph.now.points c.args.certificate.now.points c.loop-number.number
    (seen_point c.point.result.now) p h
    c.loop-number.invariant
    (subst (λ k. PointClosed k c.args.certificate.now.points (seen_point c.point.result.now) p) c.requires.kind
    (subst (λ ps. PointClosed g.T.CardTable.kind ps (seen_point c.point.result.now) p) c.shown.ensures.value c.in_default.ensures))

pub returns : goal.returns
returns g c = λ i place p lt. c.loop-number.invariant i place p (omega arith)
