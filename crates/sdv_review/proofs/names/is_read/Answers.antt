use Rattle.std.proofs.Common.{sym, ◌∙◌}
use Rattle.sdv_graph.specs.Graph.{seen_point}
use Rattle.sdv_review.proofs.ListLaws.{read_here, read_later}
use Rattle.sdv_review.proofs.names.is_read.Goals as goal

pub returns-then-reads : goal.returns-then-reads
returns-then-reads c =
    read_here c.args.name c.args.graph.now.points c.loop-number.number (seen_point c.point.result.now) _ c.point.ensures
    (sym c.reads.ensures ∙ c.if-reads.true) c.loop-number.invariant

pub loop-number-preserved : goal.loop-number-preserved
loop-number-preserved c =
    read_later c.args.name c.args.graph.now.points c.loop-number.number (seen_point c.point.result.now) _ c.point.ensures
    (sym c.reads.ensures ∙ c.if-reads.false) c.loop-number.invariant
