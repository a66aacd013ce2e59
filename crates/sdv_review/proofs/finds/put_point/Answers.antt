use Rattle.std.proofs.lemmas.Result.{on_ok_weaker}
use Rattle.sdv_graph.specs.Graph.{seen_point}
use Rattle.sdv_review.proofs.FoundLaws.{added_there}
use Rattle.sdv_review.proofs.finds.put_point.Goals as goal

pub returns : goal.returns
returns c =
    on_ok_weaker c.put_matter.result
    (added_there c.shown.result.0.now c.shown.result.1.now c.args.graph.now.points c.args.known.now.points c.args.point
    (seen_point c.point.result.now) c.index-points-point.result c.set.result.0 c.members-shapes.result.now c.numbers.result.now c.matter_of-matter.result
    c.args.found.now.items c.put_matter.new.found.items c.shown.ensures.value c.point.ensures c.index-points-point.is c.requires.known
    c.set.ensures c.members-shapes.ensures.value c.numbers.ensures c.matter_of-matter.ensures)
    c.put_matter.ensures
