use Rattle.sdv_check.specs.Asked.{place_at, here, all_points}
use Rattle.sdv_check.proofs.PointLaws.{closed_at_once}
use Rattle.sdv_check.proofs.clauses.is_closed.Goals as goal

pub returns-then-address_holds : goal.returns-then-address_holds
returns-then-address_holds g c =
    let at = c.args.at in
    let both = closed_at_once g.T.CardTable.kind (all_points at)
    (place_at at) (here at) c.address_holds.result c.holds.result c.address_holds.ensures c.holds.ensures in
    ((λ t. both.0 (c.if-address_holds.true, t)), (λ closed. (both.1 closed).1))
