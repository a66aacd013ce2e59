use Rattle.sdv_graph.specs.Graph.{seen_action}
use Rattle.sdv_certify.proofs.RefusalLaws.{LegalBefore}
use Rattle.sdv_certify.proofs.refusal.least_illegal.Given as goal

abbrev pub invariant-loop-shape : goal.invariant-loop-shape
invariant-loop-shape g l = LegalBefore g.T.CardTable.kind (seen_action l.action) l.shapes l.shape-index
