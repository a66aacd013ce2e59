use Rattle.std.proofs.Common.{rules, ◌≡◌, List, subst}
use Rattle.sdv_card.specs.declared.shape.Shape.{Shape}
use Rattle.sdv_facts.specs.declared.numbers.Numbers.{Numbers}
use Rattle.sdv_check.specs.Asked.{place_at, here, all_points}
use Rattle.sdv_facts.specs.Shared.{facts_in}
use Rattle.sdv_calls.specs.Closed.{ShapesRest, EachRests, carried_to}
use Rattle.sdv_calls.proofs.ClauseLaws.{numbers_fail, matched}
use Rattle.sdv_calls.proofs.points.fault_here.Goals as goal

pub returns-then-not-each_rests : goal.returns-then-not-each_rests
returns-then-not-each_rests g c =
    let sets = c.args.at.table.now in
    let rest = facts_in sets c.args.rest.now in
    let place = place_at c.args.at in
    let p = here c.args.at in
    let shapes : ShapesRest place.action rest p.facts.shapes = search rules in
    let carried : c.first_numbers-carried.result ≡ carried_to rest p.facts.numbers = search rules in
    let same : c.members-shapes.result.now ≡ p.facts.shapes = search rules in
    let fails : EachRests place.action rest c.first_numbers-carried.result c.members-shapes.result.now → ⊥
    = λ h. (let t = (c.each_rests.ensures sets).1 h in let f = c.if-not-each_rests.true in cc) in
    numbers_fail rest g.T.CardTable.kind (all_points c.args.at) place.action place.most p shapes
    (subst (λ (ss : List Shape). EachRests place.action rest (carried_to rest p.facts.numbers) ss → ⊥) same
    (subst (λ (ns : Numbers). EachRests place.action rest ns c.members-shapes.result.now → ⊥) carried fails))

pub returns : goal.returns
returns g c =
    let sets = c.args.at.table.now in
    let rest = facts_in sets c.args.rest.now in
    let place = place_at c.args.at in
    let p = here c.args.at in
    let shapes : ShapesRest place.action rest p.facts.shapes = search rules in
    let carried : c.first_numbers-carried.result ≡ carried_to rest p.facts.numbers = search rules in
    let same : c.members-shapes.result.now ≡ p.facts.shapes = search rules in
    let numbers : EachRests place.action rest c.first_numbers-carried.result c.members-shapes.result.now
    = (c.each_rests.ensures sets).0 c.if-not-each_rests.false in
    matched rest g.T.CardTable.kind (all_points c.args.at) place p shapes
    (subst (λ (ss : List Shape). EachRests place.action rest (carried_to rest p.facts.numbers) ss) same
    (subst (λ (ns : Numbers). EachRests place.action rest ns c.members-shapes.result.now) carried numbers))
    c.point_fault.result c.point_fault.ensures
