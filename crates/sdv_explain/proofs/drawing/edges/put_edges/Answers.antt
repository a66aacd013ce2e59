use Rattle.sdv_graph.specs.Graph.{seen_point}
use Rattle.sdv_explain.specs.Drawing.{edges_at, look_of}
use Rattle.sdv_telling.proofs.NumberedLaws.{line_added}
use Rattle.sdv_explain.proofs.drawing.edges.put_edges.Goals as goal

pub loop-from-preserved : goal.loop-from-preserved
loop-from-preserved c =
    line_added (edges_at (look_of c.args.look.now)) c.args.look.now.graph.now.points c.loop-from.from (seen_point c.point.result.now) c.loop-from.text.items
    _ _ c.point.ensures c.loop-from.invariant c.in_ok-put_edges_of.ensures
