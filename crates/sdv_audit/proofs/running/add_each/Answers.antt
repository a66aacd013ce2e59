use Rattle.sdv_audit.specs.AnyShape.{with_field}
use Rattle.sdv_audit.proofs.AnyShapes.{pushed_map}
use Rattle.sdv_audit.proofs.running.add_each.Goals as goal

pub loop-number-preserved : goal.loop-number-preserved
loop-number-preserved c =
    pushed_map c.args.numbers.now c.loop-number.number-index _ (with_field c.args.shape) c.args.all.now.items c.loop-number.all.items _
    c.with_number.result c.loop-number-test.true c.with_number.ensures c.in_ok-push.ensures.items c.loop-number.invariant
