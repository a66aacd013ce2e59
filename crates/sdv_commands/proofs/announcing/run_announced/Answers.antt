use Rattle.std.proofs.Common.{◌≡◌, ℕ, ◌+◌, ◌-◌, length, subst, sym, ◌∙◌, arith, rules}
use Rattle.sdv_graph.specs.Graph.{seen_point}
use Rattle.sdv_run.specs.Standing.{stand_of}
use Rattle.sdv_run.specs.Announced.{AnnounceAtMost}
use Rattle.sdv_run.specs.Step.{World}
use Rattle.sdv_run.proofs.AtPoints.{is_point, in_range}
use Rattle.sdv_run.proofs.Runs.{SoFar, begins_at, may_move, moves_on}
use Rattle.sdv_lines.specs.Streams.{LineSteps, Streams, streams_of}
use Rattle.sdv_commands.proofs.TracedLaws.{by_fault, finishes_cut_traced, finishes_traced, led, no_memory_traced, stops_traced}
use Rattle.sdv_commands.proofs.announcing.run_announced.Goals as goal

pub returns-in_err-standing : goal.returns-in_err-standing
returns-in_err-standing g c =
    let none = no_memory_traced c.args.graph.now (record {
      port = streams_of g.R.Read.remaining g.W.Write.contents c.args.port.now;
      input = c.args.input.now;
      out = g.O.Write.contents c.args.out.now;
      trace = g.T.Write.contents c.args.trace.now;
    }) in
    (c.args.input.now, search (rules, none))

pub returns-in_err-buffer : goal.returns-in_err-buffer
returns-in_err-buffer g c =
    let none = no_memory_traced c.args.graph.now (record {
      port = streams_of g.R.Read.remaining g.W.Write.contents c.args.port.now;
      input = c.args.input.now;
      out = g.O.Write.contents c.args.out.now;
      trace = g.T.Write.contents c.args.trace.now;
    }) in
    (c.args.input.now, search (rules, none))

pub point-requires : goal.point-requires
point-requires g c = is_point _ _ _ _ c.loop.invariant.so_far.lasts

pub step_traced-requires-clause-in_range : goal.step_traced-requires-clause-in_range
step_traced-requires-clause-in_range g c =
    let i = c.loop.invariant in
    in_range c.point.result.now.action (may_move _ _ _ _ _ _ _ i.so_far _ i.kind (seen_point c.point.result.now) c.point.ensures i.sound).keeps

pub step_traced-requires-clause-narrow : goal.step_traced-requires-clause-narrow
step_traced-requires-clause-narrow g c =
    let i = c.loop.invariant in
    (may_move _ _ _ _ _ _ _ i.so_far _ i.kind (seen_point c.point.result.now) c.point.ensures i.sound).narrow

pub step_traced-requires-clause-room : goal.step_traced-requires-clause-room
step_traced-requires-clause-room g c = c.loop.invariant.so_far.in_room

pub loop-init : goal.loop-init
loop-init g c =
    let room = c.in_ok-buffer.ensures in
    let blocks = c.as_mut_slice-held.ensures.value in
    let all : c.steps-end.result - 0 ≡ c.args.graph.now.steps = omega (arith, c.steps-end.ensures.steps) in
    record {
      sound = c.steps-end.ensures.sound;
      kind = c.in_ok-standing.ensures.kind;
      room = rw blocks room;
      so_far = begins_at _ _ _ _ _ _ c.steps-end.ensures.sound all c.in_ok-standing.ensures.stand;
    }

pub returns-in-Some : goal.returns-in-Some
returns-in-Some g c =
    let i = c.loop.invariant in
    let w : World Streams = record {
      port = streams_of g.R.Read.remaining g.W.Write.contents c.step_traced.new.world.0;
      input = c.step_traced.new.world.1.0.now;
      out = g.O.Write.contents c.step_traced.new.world.1.1.0;
      trace = g.T.Write.contents c.step_traced.new.world.1.1.1.0;
    } in
    let traced = rw c.in-Some.is at c.in_ok-end.ensures.traced in (
      c.step_traced.new.world.1.0.now,
      finishes_traced _ _ _ _ _ _ i.so_far _ i.kind (seen_point c.point.result.now) c.point.ensures w (stand_of c.step_traced.new.standing) c.in-Some.end
          (g.T.Write.contents c.write_end.new.trace) traced c.in_ok-write_end.ensures,
    )

pub returns-in_err-write_end : goal.returns-in_err-write_end
returns-in_err-write_end g c =
    let i = c.loop.invariant in
    let w : World Streams = record {
      port = streams_of g.R.Read.remaining g.W.Write.contents c.step_traced.new.world.0;
      input = c.step_traced.new.world.1.0.now;
      out = g.O.Write.contents c.step_traced.new.world.1.1.0;
      trace = g.T.Write.contents c.step_traced.new.world.1.1.1.0;
    } in
    let traced = rw c.in-Some.is at c.in_ok-end.ensures.traced in
    let cut = finishes_cut_traced _ _ _ _ _ _ i.so_far _ i.kind (seen_point c.point.result.now) c.point.ensures w
    (stand_of c.step_traced.new.standing) c.in-Some.end (g.T.Write.contents c.write_end.new.trace) traced c.in_err-write_end.ensures in
    (c.step_traced.new.world.1.0.now, by_fault _ _ _ _ c.from_residual-in_err-write_end.result c.from_residual-in_err-write_end.ensures.1 cut)

pub returns-in_err-end : goal.returns-in_err-end
returns-in_err-end g c =
    let i = c.loop.invariant in
    let w : World Streams = record {
      port = streams_of g.R.Read.remaining g.W.Write.contents c.step_traced.new.world.0;
      input = c.step_traced.new.world.1.0.now;
      out = g.O.Write.contents c.step_traced.new.world.1.1.0;
      trace = g.T.Write.contents c.step_traced.new.world.1.1.1.0;
    } in
    let stops = stops_traced _ _ _ _ _ _ i.so_far _ i.kind (seen_point c.point.result.now) c.point.ensures w
    (stand_of c.step_traced.new.standing) c.in_err-end.field-0.0 c.in_err-end.ensures.traced in
    (c.step_traced.new.world.1.0.now, by_fault _ _ _ _ c.from_residual-in_err-end.result c.from_residual-in_err-end.ensures.1 stops)

pub loop-preserved : goal.loop-preserved
loop-preserved g c =
    let i = c.loop.invariant in
    let start : World Streams = record {
      port = streams_of g.R.Read.remaining g.W.Write.contents c.args.port.now;
      input = c.args.input.now;
      out = g.O.Write.contents c.args.out.now;
      trace = g.T.Write.contents c.args.trace.now;
    } in
    let w : World Streams = record {
      port = streams_of g.R.Read.remaining g.W.Write.contents c.step_traced.new.world.0;
      input = c.step_traced.new.world.1.0.now;
      out = g.O.Write.contents c.step_traced.new.world.1.1.0;
      trace = g.T.Write.contents c.step_traced.new.world.1.1.1.0;
    } in
    let graph = c.args.graph.now in
    let s = stand_of c.step_traced.new.standing in
    let traced = rw c.in_default.is at c.in_ok-end.ensures.traced in
    let len : length c.loop.held ≡ length c.step_traced.new.held = sym c.step_traced.auto.held in
    let less : c.steps-end.result - c.loop.counter - 1 ≡ c.steps-end.result - (c.loop.counter + 1) = omega arith in
    let on = moves_on LineSteps graph _ start _ _ _ i.so_far _ i.kind (seen_point c.point.result.now) c.point.ensures w s i.sound i.room
    (led _ _ _ w s traced) in
    let so_far = subst (λ (room : ℕ). SoFar LineSteps graph room start (c.steps-end.result - (c.loop.counter + 1)) s w) len
    (subst (λ (n : ℕ). SoFar LineSteps graph (length c.loop.held) start n s w) less on) in
    record {
      sound = i.sound;
      kind = c.in_ok-end.ensures.kind ∙ i.kind;
      room = subst (AnnounceAtMost graph.points) len i.room;
      so_far = so_far;
    }
