use Rattle.sdv_review.proofs.FoundLaws.{all_found}
use Rattle.sdv_review.proofs.MeaningLaws.{none_comes, partitions_are_told, tests_come_out}
use Rattle.sdv_review.proofs.finds.find.Goals as goal

pub returns-clause-unreached : goal.returns-clause-unreached
returns-clause-unreached c =
    let listed = all_found c.args.graph.now c.args.known.now.points c.new-found.result.items c.put_points.new.found.items c.put_numbers.new.found.items
    c.put_flags.new.found.items c.new-found.ensures.items c.in_ok-put_points.ensures c.in_ok-put_numbers.ensures c.in_ok-put_flags.ensures in
    none_comes c.args.graph.now c.args.known.now.points c.put_flags.new.found.items listed c.first.ensures.sound c.requires.closed

pub returns-clause-partitions : goal.returns-clause-partitions
returns-clause-partitions c =
    let listed = all_found c.args.graph.now c.args.known.now.points c.new-found.result.items c.put_points.new.found.items c.put_numbers.new.found.items
    c.put_flags.new.found.items c.new-found.ensures.items c.in_ok-put_points.ensures c.in_ok-put_numbers.ensures c.in_ok-put_flags.ensures in
    partitions_are_told c.args.graph.now c.args.known.now.points c.put_flags.new.found.items listed c.first.ensures.sound c.requires.closed

pub returns-clause-tests : goal.returns-clause-tests
returns-clause-tests c =
    let listed = all_found c.args.graph.now c.args.known.now.points c.new-found.result.items c.put_points.new.found.items c.put_numbers.new.found.items
    c.put_flags.new.found.items c.new-found.ensures.items c.in_ok-put_points.ensures c.in_ok-put_numbers.ensures c.in_ok-put_flags.ensures in
    tests_come_out c.args.graph.now c.args.known.now.points c.put_flags.new.found.items listed c.first.ensures.sound c.requires.closed
