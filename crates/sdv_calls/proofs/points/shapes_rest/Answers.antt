use Rattle.sdv_card.specs.declared.shape.Shape.{Shape}
use Rattle.sdv_check.proofs.PointLaws.{fails_at, each_more}
use Rattle.sdv_facts.specs.Shared.{facts_in}
use Rattle.sdv_graph.specs.Graph.{seen_action}
use Rattle.sdv_calls.specs.Closed.{ShapeRests}
use Rattle.sdv_calls.proofs.points.shapes_rest.Goals as goal

pub returns-then-not-shape_rests : goal.returns-then-not-shape_rests
returns-then-not-shape_rests c =
    let P : Shape → Type 0 = ShapeRests (seen_action c.args.action.now) (facts_in c.args.table.now c.args.rest.now) in
    fails_at P c.args.shapes.now c.loop-shape.shape-index _ c.shape_rests.result c.loop-shape-test.true c.shape_rests.ensures c.if-not-shape_rests.true

pub loop-shape-preserved : goal.loop-shape-preserved
loop-shape-preserved c =
    let P : Shape → Type 0 = ShapeRests (seen_action c.args.action.now) (facts_in c.args.table.now c.args.rest.now) in
    each_more P c.args.shapes.now c.loop-shape.shape-index _ c.loop-shape-test.true c.loop-shape.invariant (c.shape_rests.ensures.0 c.if-not-shape_rests.false)
