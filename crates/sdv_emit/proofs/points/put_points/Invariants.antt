use Rattle.std.proofs.Common.{◌≡◌, ◌++◌, drop}
use Rattle.sdv_emit.specs.CText.{point_line}
use Rattle.sdv_telling.specs.Numbered.{numbered}
use Rattle.sdv_emit.proofs.points.put_points.Given as goal

-- what is written, and what is still to be, are all
abbrev pub invariant-loop-number : goal.invariant-loop-number
invariant-loop-number l =
    l.text.items ++ numbered (point_line l.graph l.words) l.number (drop l.number l.graph.points)
    ≡ l.fn.text.items ++ numbered (point_line l.graph l.words) 0 l.graph.points
