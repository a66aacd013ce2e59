use Rattle.sdv_graph.specs.Graph.{seen_point}
use Rattle.sdv_certify.proofs.VersionLaws.{found, next}
use Rattle.sdv_certify.proofs.versions.version_of.Goals as goal

pub returns-then-takes_boot : goal.returns-then-takes_boot
returns-then-takes_boot c =
    found c.args.graph.now c.loop-number.number (seen_point c.point.result.now) c.takes_boot.result c.point.ensures c.loop-number.invariant
    c.takes_boot.ensures c.if-takes_boot.true

pub loop-number-preserved : goal.loop-number-preserved
loop-number-preserved c =
    next c.args.graph.now c.loop-number.number (seen_point c.point.result.now) c.takes_boot.result c.point.ensures c.loop-number.invariant
    c.takes_boot.ensures c.if-takes_boot.false
