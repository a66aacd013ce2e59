use Rattle.std.proofs.Common.{◌↔◌, drop}
use Rattle.sdv_graph.specs.Graph.{seen_action}
use Rattle.sdv_certify.specs.Refusal.{AllEnd}
use Rattle.sdv_explain.proofs.refused.other_end.Given as goal

abbrev pub invariant-loop-shape : goal.invariant-loop-shape
invariant-loop-shape l = AllEnd (seen_action l.action) (drop l.shape-index l.shapes) ↔ AllEnd (seen_action l.action) l.shapes
