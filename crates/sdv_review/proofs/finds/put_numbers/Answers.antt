use Rattle.sdv_review.specs.declared.finding.Name.TheVariants.{Number}
use Rattle.sdv_review.proofs.FoundLaws.{one_name_more}
use Rattle.sdv_review.proofs.finds.put_numbers.Goals as goal

pub loop-place-preserved : goal.loop-place-preserved
loop-place-preserved c =
    one_name_more c.args.found.now.items c.loop-place.found.items c.put_name.new.found.items Number c.args.graph.now.points c.loop-place.place
    c.loop-place.invariant c.in_ok-put_name.ensures
