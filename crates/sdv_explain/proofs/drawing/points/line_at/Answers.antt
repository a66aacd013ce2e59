use Rattle.std.proofs.Common.{sym}
use Rattle.std.proofs.lemmas.Option.{get_or_from_slice_get}
use Rattle.sdv_explain.proofs.drawing.points.line_at.Goals as goal

pub returns : goal.returns
returns c = sym (get_or_from_slice_get c.args.look.now.graph.now.lines c.args.point c.line.result 0 c.line.ensures)
