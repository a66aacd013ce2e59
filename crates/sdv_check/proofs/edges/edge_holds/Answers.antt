use Rattle.sdv_facts.proofs.SharedLaws.{seen_there}
use Rattle.sdv_check.specs.Asked.{all_points, there_in, here, place_at, pass_of}
use Rattle.sdv_check.proofs.PointLaws.{rules_there, item_there}
use Rattle.sdv_check.proofs.edges.edge_holds.Goals as goal

pub returns-in-Some : goal.returns-in-Some
returns-in-Some c =
    let at = c.args.at in
    let named = item_there at.certificate.now c.args.target.to c.get.result c.in-Some.there c.get.ensures.lookup c.in-Some.is in
    let there = seen_there at.table.now at.certificate.now c.args.target.to c.in-Some.there.now named in
    rules_there c.args.rules (all_points at) (place_at at) (here at) (there_in at c.in-Some.there.now) (pass_of c.args.pass) c.args.target c.args.shape
    c.args.carried.now c.target_holds.result there c.target_holds.ensures
