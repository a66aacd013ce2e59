use Rattle.std.proofs.Common.{◌↔◌, drop}
use Rattle.sdv_graph.specs.Graph.{seen_action}
use Rattle.sdv_explain.specs.Refused.{AllTake}
use Rattle.sdv_explain.proofs.refused.untaken.Given as goal

abbrev pub invariant-loop-shape : goal.invariant-loop-shape
invariant-loop-shape l = AllTake (seen_action l.action) l.numbers (drop l.shape-index l.shapes) ↔ AllTake (seen_action l.action) l.numbers l.shapes
