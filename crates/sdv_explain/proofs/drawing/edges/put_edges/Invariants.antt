use Rattle.std.proofs.Common.{◌≡◌, ◌++◌, drop}
use Rattle.sdv_telling.specs.Numbered.{numbered}
use Rattle.sdv_explain.specs.Drawing.{edges_at, look_of}
use Rattle.sdv_explain.proofs.drawing.edges.put_edges.Given as goal

-- what is written, and what is still to be, are all
abbrev pub invariant-loop-from : goal.invariant-loop-from
invariant-loop-from l =
    l.text.items ++ numbered (edges_at (look_of l.look)) l.from (drop l.from l.look.graph.now.points)
    ≡ l.fn.text.items ++ numbered (edges_at (look_of l.look)) 0 l.look.graph.now.points
