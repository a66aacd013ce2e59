use Rattle.sdv_card.specs.declared.shape.Shape.{Shape}
use Rattle.sdv_check.proofs.PointLaws.{fails_at, each_more}
use Rattle.sdv_facts.specs.Shared.{point_in}
use Rattle.sdv_calls.specs.Closed.{IsKnownAt}
use Rattle.sdv_calls.proofs.covering.are_known_at.Goals as goal

pub returns-then-not-is_known_at : goal.returns-then-not-is_known_at
returns-then-not-is_known_at c =
    let P : Shape → Type 0 = IsKnownAt (point_in c.args.said.table.now c.args.facts.now) c.args.numbers.now in
    fails_at P c.args.shapes.now c.loop-shape.shape-index _ c.is_known_at.result c.loop-shape-test.true c.is_known_at.ensures c.if-not-is_known_at.true

pub loop-shape-preserved : goal.loop-shape-preserved
loop-shape-preserved c =
    let P : Shape → Type 0 = IsKnownAt (point_in c.args.said.table.now c.args.facts.now) c.args.numbers.now in
    each_more P c.args.shapes.now c.loop-shape.shape-index _ c.loop-shape-test.true c.loop-shape.invariant (c.is_known_at.ensures.0 c.if-not-is_known_at.false)
