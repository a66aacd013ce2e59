use Rattle.std.proofs.Common.{rules, ◌∙◌, sym, arith}
use Rattle.sdv_graph.specs.Graph.{seen_point}
use Rattle.sdv_certify.proofs.PassLaws.{at_place}
use Rattle.sdv_certify.proofs.RefusalLaws.{fails_first, next_fine, fine_here, all_fine}
use Rattle.sdv_certify.proofs.refusal.first_fault.Goals as goal

pub returns-in-Some-clause-fails : goal.returns-in-Some-clause-fails
returns-in-Some-clause-fails g c =
    let o = c.index-family-point.result in
    fails_first c.args.graph.now g.T.CardTable.kind c.args.family.now c.loop-point.point
    (seen_point c.point.result.now) o c.in-Some.fault c.requires.kind c.loop-point.invariant c.point.ensures
    (at_place c.args.family.now c.loop-point.point o (omega arith) ∙ sym c.index-family-point.is) c.in-Some.ensures.fails

pub loop-point-preserved : goal.loop-point-preserved
loop-point-preserved g c j place h here =
    let o = c.index-family-point.result in
    next_fine c.args.graph.now c.args.family.now c.loop-point.point (seen_point c.point.result.now) o c.loop-point.invariant c.point.ensures
    (at_place c.args.family.now c.loop-point.point o (omega arith) ∙ sym c.index-family-point.is)
    (fine_here c.args.graph.now g.T.CardTable.kind _ o c.requires.kind c.in-None.ensures.fine) j place (omega (arith, h)) here

pub returns-clause-fine : goal.returns-clause-fine
returns-clause-fine g c = all_fine c.args.graph.now c.args.family.now c.loop-point.point c.loop-point.invariant (omega arith)

pub loop-point-init : goal.loop-point-init
loop-point-init g c = search rules
