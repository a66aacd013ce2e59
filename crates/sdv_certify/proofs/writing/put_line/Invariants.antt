use Rattle.std.proofs.Common.{◌<◌, drop}
use Rattle.arrayvec.specs.ArrayVec.{array_vec_len}
use Rattle.sdv_facts.specs.Shared.{point_in}
use Rattle.sdv_certify.specs.Pieces.{shapes_text, line_text}
use Rattle.sdv_certify.proofs.Written.{Held}
use Rattle.sdv_certify.proofs.writing.put_line.Given as goal

-- what is written, what is held and what is left are the line
abbrev pub invariant-loop-shape : goal.invariant-loop-shape
invariant-loop-shape g l = record {
  held : Held (line_text l.fn.version l.place (point_in l.table l.point)) (g.W.Write.contents l.fn.out) (g.W.Write.contents l.out) l.line.items (shapes_text (drop l.shape-index l.shapes));
  room : array_vec_len l.line < 1024;
}
