use Rattle.sdv_review.proofs.FoundLaws.{one_more}
use Rattle.sdv_review.proofs.finds.put_points.Goals as goal

pub loop-point-preserved : goal.loop-point-preserved
loop-point-preserved c =
    one_more c.args.found.now.items c.loop-point.found.items c.put_point.new.found.items c.args.graph.now.points c.args.known.now.points c.loop-point.point
    c.loop-point.invariant c.in_ok-put_point.ensures
