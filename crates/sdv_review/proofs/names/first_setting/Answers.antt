use Rattle.std.proofs.Common.{sym, ◌∙◌}
use Rattle.sdv_graph.specs.Graph.{seen_point}
use Rattle.sdv_review.proofs.ListLaws.{set_here, set_later}
use Rattle.sdv_review.proofs.names.first_setting.Goals as goal

pub returns-then-sets : goal.returns-then-sets
returns-then-sets c =
    set_here c.args.name c.args.graph.now.points c.loop-number.number (seen_point c.point.result.now) _ c.point.ensures
    (sym c.sets.ensures ∙ c.if-sets.true) c.loop-number.invariant

pub loop-number-preserved : goal.loop-number-preserved
loop-number-preserved c =
    set_later c.args.name c.args.graph.now.points c.loop-number.number (seen_point c.point.result.now) _ c.point.ensures
    (sym c.sets.ensures ∙ c.if-sets.false) c.loop-number.invariant
