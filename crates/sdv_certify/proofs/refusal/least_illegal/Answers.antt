use Rattle.std.proofs.Common.{◌≡◌, false, rules, arith, refl, get_or}
use Rattle.sdv_graph.specs.Graph.{seen_action}
use Rattle.sdv_facts.specs.Closed.{LegalAt}
use Rattle.sdv_facts.proofs.SetLaws.{no_shape}
use Rattle.sdv_certify.proofs.RefusalLaws.{is_least, next_legal, all_legal, refuted}
use Rattle.sdv_certify.proofs.refusal.least_illegal.Goals as goal

pub returns-then-not-legal_at-clause-least : goal.returns-then-not-legal_at-clause-least
returns-then-not-legal_at-clause-least g c =
    let f : c.legal_at.result ≡ false = search rules in
    is_least g.T.CardTable.kind
    (seen_action c.args.action.now) c.args.shapes.now c.loop-shape.shape-index _ c.requires.rising c.loop-shape.invariant c.loop-shape-test.true refl
    (refuted c.legal_at.result c.legal_at.ensures f)

pub loop-shape-preserved : goal.loop-shape-preserved
loop-shape-preserved g c j h =
    let l : LegalAt g.T.CardTable.kind (seen_action c.args.action.now) (get_or c.args.shapes.now c.loop-shape.shape-index no_shape) = search rules in
    next_legal g.T.CardTable.kind
    (seen_action c.args.action.now) c.args.shapes.now c.loop-shape.shape-index no_shape c.loop-shape-test.true c.loop-shape.invariant l j (omega (arith, h))

pub returns-clause-legal : goal.returns-clause-legal
returns-clause-legal g c = all_legal g.T.CardTable.kind (seen_action c.args.action.now) c.args.shapes.now c.loop-shape.shape-index c.loop-shape.invariant
    (omega arith)
