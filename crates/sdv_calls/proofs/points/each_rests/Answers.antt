use Rattle.sdv_card.specs.declared.shape.Shape.{Shape}
use Rattle.sdv_check.proofs.PointLaws.{fails_at, each_more}
use Rattle.sdv_facts.specs.Shared.{facts_in}
use Rattle.sdv_graph.specs.Graph.{seen_action}
use Rattle.sdv_calls.specs.Closed.{NumbersRest}
use Rattle.sdv_calls.proofs.points.each_rests.Goals as goal

pub returns-then-not-numbers_rest : goal.returns-then-not-numbers_rest
returns-then-not-numbers_rest c sets =
    let P : Shape → Type 0 = NumbersRest (seen_action c.args.action.now) (facts_in sets c.args.rest.now) c.args.carried.now in
    fails_at P c.args.shapes.now c.loop-shape.shape-index _ c.numbers_rest.result c.loop-shape-test.true (c.numbers_rest.ensures sets) c.if-not-numbers_rest.true

pub loop-shape-preserved : goal.loop-shape-preserved
loop-shape-preserved c sets =
    let P : Shape → Type 0 = NumbersRest (seen_action c.args.action.now) (facts_in sets c.args.rest.now) c.args.carried.now in
    each_more P c.args.shapes.now c.loop-shape.shape-index _ c.loop-shape-test.true (c.loop-shape.invariant sets)
    ((c.numbers_rest.ensures sets).0 c.if-not-numbers_rest.false)
