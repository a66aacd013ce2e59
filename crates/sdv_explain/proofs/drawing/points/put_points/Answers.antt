use Rattle.sdv_explain.specs.Drawing.{look_of, point_line}
use Rattle.sdv_telling.proofs.NumberedLaws.{item_there, line_added}
use Rattle.sdv_explain.proofs.drawing.points.put_points.Goals as goal

pub loop-point-preserved : goal.loop-point-preserved
loop-point-preserved c =
    line_added (point_line (look_of c.args.look.now)) c.args.statements.now c.loop-point.point c.index-statements-point.result c.loop-point.text.items _ _
    (item_there c.args.statements.now c.loop-point.point c.index-statements-point.result c.loop-point-test.true c.index-statements-point.is)
    c.loop-point.invariant c.in_ok-put_point.ensures
