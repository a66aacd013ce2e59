use Rattle.std.proofs.Common.{subst, arith, refl}
use Rattle.sdv_graph.specs.Graph.{seen_point}
use Rattle.sdv_facts.specs.Shared.{point_in, points_in}
use Rattle.sdv_facts.proofs.SharedLaws.{named_there}
use Rattle.sdv_check.proofs.CheckLaws.{Here, as_many, point_there, facts_at, below_next, same_variables, flags_fit, variables_of}
use Rattle.sdv_calls.specs.Closed.{HoldsHere, EachHolds, FirstFailing}
use Rattle.sdv_calls.specs.Shown.{rest_said}
use Rattle.sdv_calls.proofs.checker.graph_fault.Goals as goal

pub invariant_of-at : goal.invariant_of-at
invariant_of-at g c =
    let sets = c.args.said.table.now in
    let points = c.args.said.points.now in
    let q = c.index-points-number.result in
    let p = point_in sets q in
    let many = as_many sets points (points_in sets points) refl in
    let there = point_there points c.loop-number.number q (omega (arith, many, c.requires.matches.count)) c.index-points-number.is in
    let h : Here c.args.graph.now.points (points_in sets points) c.loop-number.number (seen_point c.point.result.now) p =
    record { here = c.point.ensures; known = facts_at sets points (points_in sets points) c.loop-number.number q refl there } in
    record {
      own = named_there sets points c.loop-number.number q c.args.said.named there;
      named = λ i r at. named_there sets points i r c.args.said.named at;
      same = λ i r at. same_variables c.args.graph.now (points_in sets points) c.loop-number.number (seen_point c.point.result.now) p c.requires.matches h i
          (point_in sets r) (facts_at sets points (points_in sets points) i r refl at);
    }

pub fault_here-requires-clause-flag : goal.fault_here-requires-clause-flag
fault_here-requires-clause-flag g c = flags_fit c.args.graph.now.points c.loop-number.number (seen_point c.point.result.now) c.requires.limits c.point.ensures

pub fault_here-requires-clause-few : goal.fault_here-requires-clause-few
fault_here-requires-clause-few g c =
    let sets = c.args.said.table.now in
    let points = c.args.said.points.now in
    let q = c.index-points-number.result in
    let many = as_many sets points (points_in sets points) refl in
    let there = point_there points c.loop-number.number q (omega (arith, many, c.requires.matches.count)) c.index-points-number.is in
    let count = variables_of c.args.graph.now (points_in sets points) c.loop-number.number (point_in sets q) c.requires.matches
    (facts_at sets points (points_in sets points) c.loop-number.number q refl there) in
    omega (arith, count, c.requires.few)

pub returns-in-Some : goal.returns-in-Some
returns-in-Some g c =
    let sets = c.args.said.table.now in
    let points = c.args.said.points.now in
    let q = c.index-points-number.result in
    let p = point_in sets q in
    let many = as_many sets points (points_in sets points) refl in
    let there = point_there points c.loop-number.number q (omega (arith, many, c.requires.matches.count)) c.index-points-number.is in
    record {
      place = seen_point c.point.result.now;
      here = c.point.ensures;
      facts = p;
      known = facts_at sets points (points_in sets points) c.loop-number.number q refl there;
      fails = subst (λ k. FirstFailing (HoldsHere (rest_said c.args.said) k (points_in sets points) (seen_point c.point.result.now) p) c.in-Some.clause)
          c.requires.kind c.in-Some.ensures;
      below = c.loop-number.invariant;
    }

pub loop-number-preserved : goal.loop-number-preserved
loop-number-preserved g c =
    let sets = c.args.said.table.now in
    let points = c.args.said.points.now in
    let q = c.index-points-number.result in
    let p = point_in sets q in
    let many = as_many sets points (points_in sets points) refl in
    let there = point_there points c.loop-number.number q (omega (arith, many, c.requires.matches.count)) c.index-points-number.is in
    let h : Here c.args.graph.now.points (points_in sets points) c.loop-number.number (seen_point c.point.result.now) p =
    record { here = c.point.ensures; known = facts_at sets points (points_in sets points) c.loop-number.number q refl there } in
    below_next (λ place p. EachHolds (HoldsHere (rest_said c.args.said) c.args.graph.now.kind (points_in sets points) place p)) c.args.graph.now.points (points_in sets points)
    c.loop-number.number (seen_point c.point.result.now) p h c.loop-number.invariant
    (subst (λ k. EachHolds (HoldsHere (rest_said c.args.said) k (points_in sets points) (seen_point c.point.result.now) p)) c.requires.kind c.in_default.ensures)

pub returns : goal.returns
returns g c = λ i place p lt here known. c.loop-number.invariant i place p (omega arith) here known
