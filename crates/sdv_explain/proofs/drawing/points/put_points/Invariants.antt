use Rattle.std.proofs.Common.{◌≡◌, ◌++◌, drop}
use Rattle.sdv_telling.specs.Numbered.{numbered}
use Rattle.sdv_explain.specs.Drawing.{look_of, point_line}
use Rattle.sdv_explain.proofs.drawing.points.put_points.Given as goal

-- what is written, and what is still to be, are all
abbrev pub invariant-loop-point : goal.invariant-loop-point
invariant-loop-point l =
    l.text.items ++ numbered (point_line (look_of l.look)) l.point (drop l.point l.statements)
    ≡ l.fn.text.items ++ numbered (point_line (look_of l.look)) 0 l.statements
