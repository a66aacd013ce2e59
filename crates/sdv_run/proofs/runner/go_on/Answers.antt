use Rattle.sdv_graph.specs.Graph.{seen_point}
use Rattle.sdv_run.specs.Standing.{stand_of}
use Rattle.sdv_run.specs.Machine.{Machine}
use Rattle.sdv_run.proofs.Machines.{ready_at, went_on, went}
use Rattle.sdv_run.proofs.runner.go_on.Goals as goal

pub take-requires-clause-narrow : goal.take-requires-clause-narrow
take-requires-clause-narrow c =
    let m : Machine = record { graph = c.args.graph.now; stand = stand_of c.args.standing.now; left = c.args.left.now } in
    rw c.requires.kind (ready_at m (seen_point c.point.result.now) c.requires.on c.point.ensures).narrow

pub returns-clause-on : goal.returns-clause-on
returns-clause-on c =
    let led = rw c.requires.kind at c.in_ok-take.ensures.led in
    went_on c.args.graph.now (stand_of c.args.standing.now) c.args.left.now (seen_point c.point.result.now) c.requires.on c.point.ensures
    (stand_of c.take.new.standing) led

pub returns-clause-took : goal.returns-clause-took
returns-clause-took c =
    let took = rw c.requires.kind at c.in_ok-take.ensures.took in
    went c.args.graph.now (stand_of c.args.standing.now) c.args.left.now (seen_point c.point.result.now) c.requires.on c.point.ensures c.args.returned.now
    (stand_of c.take.new.standing) took
