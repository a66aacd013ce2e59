use Rattle.std.proofs.Common.{rules, ◌≤◌, length, arith}
use Rattle.sdv_run.specs.Step.{World}
use Rattle.sdv_run.proofs.Steps.{cut_taking, cut_recording, stepped}
use Rattle.sdv_run.proofs.step.step.Goals as goal

pub perform-requires : goal.perform-requires
perform-requires g c =
    let fits = rw c.in-Some.is at c.in_ok-event.ensures.fits in
    fits (length c.args.held.now) c.requires.in_range c.requires.room

pub returns-in_err-take-clause-stepped : goal.returns-in_err-take-clause-stepped
returns-in_err-take-clause-stepped g c =
    let w : World g.row.P.Denot = record {
      port = c.args.world.port.now;
      input = c.args.world.input.now.now;
      out = g.O.Write.contents c.args.world.out.now;
      trace = g.T.Write.contents c.args.world.trace.now;
    } in
    let asks = rw c.in-Some.is at c.in_ok-event.ensures.asks in
    let cut = cut_taking _ g.P.CardPort.steps c.in-Some.event c.perform.new.held w c.in_ok-returned.returned c.perform.new.port c.perform.new.input.now
    c.in_ok-returned.ensures _ _ c.in_err-take.field-0.0 asks c.in_err-take.ensures.took in
    search (rules, cut)

pub record-requires : goal.record-requires
record-requires g c =
    let fits = rw c.in-Some.is at c.in_ok-event.ensures.fits in
    let same = c.perform.auto.held in
    let room : c.args.standing.now.host.announced ≤ length c.perform.new.held = omega (arith, same, c.requires.room) in
    fits (length c.perform.new.held) c.requires.in_range room

pub returns-in_err-record-clause-stepped : goal.returns-in_err-record-clause-stepped
returns-in_err-record-clause-stepped g c =
    let w : World g.row.P.Denot = record {
      port = c.args.world.port.now;
      input = c.args.world.input.now.now;
      out = g.O.Write.contents c.args.world.out.now;
      trace = g.T.Write.contents c.args.world.trace.now;
    } in
    let asks = rw c.in-Some.is at c.in_ok-event.ensures.asks in
    let cut = cut_recording _ g.P.CardPort.steps c.in-Some.event c.perform.new.held w c.in_ok-returned.returned c.perform.new.port c.perform.new.input.now
    c.in_ok-returned.ensures (g.O.Write.contents c.record.new.out) (g.T.Write.contents c.record.new.trace) _ c.in_err-record.field-0.0 asks
    c.in_err-record.ensures in
    search (rules, cut)

pub returns-clause-stepped : goal.returns-clause-stepped
returns-clause-stepped g c =
    let w : World g.row.P.Denot = record {
      port = c.args.world.port.now;
      input = c.args.world.input.now.now;
      out = g.O.Write.contents c.args.world.out.now;
      trace = g.T.Write.contents c.args.world.trace.now;
    } in
    let asks = rw c.in-Some.is at c.in_ok-event.ensures.asks in
    stepped _ g.P.CardPort.steps c.in-Some.event c.perform.new.held w c.in_ok-returned.returned c.perform.new.port c.perform.new.input.now
    c.in_ok-returned.ensures (g.O.Write.contents c.record.new.out) (g.T.Write.contents c.record.new.trace) _ _ asks c.in_ok-take.ensures.took
    c.in_ok-record.ensures
