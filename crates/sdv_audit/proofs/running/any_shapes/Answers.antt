use Rattle.std.proofs.Common.{◌∙◌, ap, filter}
use Rattle.sdv_audit.specs.AnyShape.{is_shape_at}
use Rattle.sdv_audit.proofs.running.any_shapes.Goals as goal

pub returns : goal.returns
returns c = c.in_ok-shapes.ensures ∙ ap (filter (is_shape_at c.args.kind)) (c.as_slice.ensures.value ∙ c.in_ok-all.ensures)
