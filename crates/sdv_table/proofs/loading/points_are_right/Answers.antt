use Rattle.sdv_table.proofs.Lengths.{points_more}
use Rattle.sdv_table.proofs.loading.points_are_right.Goals as goal

pub loop-point-preserved : goal.loop-point-preserved
loop-point-preserved c = λ i less.
    points_more c.args.words.now c.loop-point.point i c.loop-point.invariant (c.is_point.ensures.yes (cc)) less
