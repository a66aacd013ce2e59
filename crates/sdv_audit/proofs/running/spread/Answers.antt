use Rattle.sdv_audit.proofs.AnyShapes.{added_each}
use Rattle.sdv_audit.proofs.running.spread.Goals as goal

pub loop-shape-preserved : goal.loop-shape-preserved
loop-shape-preserved c =
    added_each c.args.shapes.now c.loop-shape.shape-index _ c.args.numbers.now c.loop-shape.all.items _ c.loop-shape-test.true
    c.in_ok-add_each.ensures c.loop-shape.invariant
