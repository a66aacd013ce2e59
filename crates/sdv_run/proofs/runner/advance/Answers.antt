use Rattle.std.proofs.Common.{◌≤◌, ◌∙◌, arith}
use Rattle.sdv_graph.specs.Graph.{seen_point}
use Rattle.sdv_run.specs.Standing.{stand_of}
use Rattle.sdv_run.specs.Machine.{Machine}
use Rattle.sdv_run.proofs.AtPoints.{in_range}
use Rattle.sdv_run.proofs.Machines.{ready_at, has_left, can_anywhere, still_on, came_more}
use Rattle.sdv_run.proofs.runner.advance.Goals as goal

pub returns-in-Some-clause-performable : goal.returns-in-Some-clause-performable
returns-in-Some-clause-performable c =
    let i = c.loop.invariant in
    let m : Machine = record { graph = c.args.graph.now; stand = stand_of c.loop.standing; left = c.loop.left } in
    let r = ready_at m (seen_point c.point.result.now) i.on c.point.ensures in
    let fits = rw c.in-Some.is at c.in_ok-event.ensures.fits in
    let announced = c.loop.standing.host.announced in
    let enough : announced ≤ announced = omega arith in
    can_anywhere c.in-Some.event announced (fits announced (in_range c.point.result.now.action r.keeps) enough)

pub pass-requires-clause-narrow : goal.pass-requires-clause-narrow
pass-requires-clause-narrow c =
    let i = c.loop.invariant in
    let m : Machine = record { graph = c.args.graph.now; stand = stand_of c.loop.standing; left = c.loop.left } in
    rw i.kind (ready_at m (seen_point c.point.result.now) i.on c.point.ensures).narrow

pub pass-requires-clause-in_range : goal.pass-requires-clause-in_range
pass-requires-clause-in_range c =
    let i = c.loop.invariant in
    let m : Machine = record { graph = c.args.graph.now; stand = stand_of c.loop.standing; left = c.loop.left } in
    in_range c.point.result.now.action (ready_at m (seen_point c.point.result.now) i.on c.point.ensures).keeps

pub loop-preserved : goal.loop-preserved
loop-preserved c =
    let i = c.loop.invariant in
    let f = c.args.graph.now in
    let s = stand_of c.loop.standing in
    let p = seen_point c.point.result.now in
    let s' = stand_of c.pass.new.standing in
    let passes = rw i.kind at c.in_default-pass.ensures.passes in
    let some = has_left (record { graph = f; stand = s; left = c.loop.left }) i.on in
    record {
      kind = c.in_default-pass.ensures.kind ∙ i.kind;
      on = still_on f s c.loop.left p i.on c.point.ensures s' passes;
      came = came_more f s c.loop.left p i.on c.point.ensures (stand_of c.args.standing.now) s' c.args.left.now i.came passes;
      count = omega (arith, i.count, some);
    }
