use Rattle.std.proofs.Common.{◌∙◌}
use Rattle.sdv_emit.proofs.Room.{has_room}
use Rattle.sdv_emit.proofs.emitting.emit_accepted.Goals as goal

pub c_text-requires : goal.c_text-requires
c_text-requires c = record {
  heads = has_room c.graph-graph.result.now c.bound-bound.result c.as_slice-2.result.now (c.as_slice-2.ensures.value ∙ c.in-Ok.ensures.table.same);
}
