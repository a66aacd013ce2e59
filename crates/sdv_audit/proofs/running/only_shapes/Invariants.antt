use Rattle.std.proofs.Common.{◌≡◌, take, filter}
use Rattle.sdv_audit.specs.AnyShape.{is_shape_at}
use Rattle.sdv_audit.proofs.running.only_shapes.Given as goal

abbrev pub invariant-loop-shape : goal.invariant-loop-shape
invariant-loop-shape l = l.all.items ≡ filter (is_shape_at l.kind) (take l.shape-index l.shapes)
