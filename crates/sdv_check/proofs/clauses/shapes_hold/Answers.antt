use Rattle.sdv_card.specs.declared.shape.Shape.{Shape}
use Rattle.sdv_check.specs.Asked.{AskedFrom}
use Rattle.sdv_check.proofs.PointLaws.{fails_at, each_more}
use Rattle.sdv_check.proofs.clauses.shapes_hold.Goals as goal

pub returns-then-not-shape_holds : goal.returns-then-not-shape_holds
returns-then-not-shape_holds g c =
    let P : Shape → Type 0 = AskedFrom c.args.asked g.T.CardTable.kind c.args.at in
    fails_at P c.args.shapes.now c.loop-shape.shape-index _ c.shape_holds.result c.loop-shape-test.true c.shape_holds.ensures c.if-not-shape_holds.true

pub loop-shape-preserved : goal.loop-shape-preserved
loop-shape-preserved g c =
    let P : Shape → Type 0 = AskedFrom c.args.asked g.T.CardTable.kind c.args.at in
    each_more P c.args.shapes.now c.loop-shape.shape-index _ c.loop-shape-test.true c.loop-shape.invariant (c.shape_holds.ensures.0 c.if-not-shape_holds.false)
