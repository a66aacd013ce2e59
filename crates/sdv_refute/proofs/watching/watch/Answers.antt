use Rattle.std.proofs.Common.{◌≡◌, ℕ, ◌+◌, ◌-◌, length, refl, subst, sym, ◌∙◌, arith, rules}
use Rattle.sdv_graph.specs.Graph.{seen_point}
use Rattle.sdv_graph.specs.Path.{Point, Halts, action_move}
use Rattle.sdv_run.specs.Announced.{AnnounceAtMost}
use Rattle.sdv_run.specs.Run.{ending_of}
use Rattle.sdv_run.specs.Standing.{host_of, stand_of}
use Rattle.sdv_run.specs.Step.{World, Leads, CutShort}
use Rattle.sdv_run.proofs.AtPoints.{is_point, in_range}
use Rattle.sdv_run.proofs.Runs.{may_move}
use Rattle.sdv_refute.specs.Watched.{IsAllowedAt, IsWrongHere}
use Rattle.sdv_refute.proofs.ToldRun.{Telling, begins_told, goes_told, ends_told, stops_told, cut_at_end_told, cut_at_change, cuts_told, no_memory, by_fault}
use Rattle.sdv_refute.proofs.watching.watch.Goals as goal

pub returns-in_err-standing : goal.returns-in_err-standing
returns-in_err-standing g c =
    let none = no_memory g.P.CardPort.steps g.P.CardPort.card c.args.graph.now c.args.lines
    (record { port = c.args.port.now; input = c.args.input.now; out = g.O.Write.contents c.args.out.now; trace = g.T.Write.contents c.args.trace.now }) in
    (c.args.input.now, search (rules, none))

pub returns-in_err-buffer : goal.returns-in_err-buffer
returns-in_err-buffer g c =
    let none = no_memory g.P.CardPort.steps g.P.CardPort.card c.args.graph.now c.args.lines
    (record { port = c.args.port.now; input = c.args.input.now; out = g.O.Write.contents c.args.out.now; trace = g.T.Write.contents c.args.trace.now }) in
    (c.args.input.now, search (rules, none))

pub point-requires : goal.point-requires
point-requires g c = is_point _ _ _ _ c.loop.invariant.so_far.watching.so_far.lasts

pub step-requires-clause-in_range : goal.step-requires-clause-in_range
step-requires-clause-in_range g c =
    let i = c.loop.invariant in
    in_range c.point.result.now.action (may_move _ _ _ _ _ _ _ i.so_far.watching.so_far _ i.kind (seen_point c.point.result.now) c.point.ensures i.sound).keeps

pub step-requires-clause-narrow : goal.step-requires-clause-narrow
step-requires-clause-narrow g c =
    let i = c.loop.invariant in
    (may_move _ _ _ _ _ _ _ i.so_far.watching.so_far _ i.kind (seen_point c.point.result.now) c.point.ensures i.sound).narrow

pub step-requires-clause-room : goal.step-requires-clause-room
step-requires-clause-room g c = c.loop.invariant.so_far.watching.so_far.in_room

pub loop-init : goal.loop-init
loop-init g c =
    let room = c.in_ok-buffer.ensures in
    let blocks = c.as_mut_slice-held.ensures.value in
    let all : c.steps-end.result - 0 ≡ c.args.graph.now.steps = omega (arith, c.steps-end.ensures.steps) in
    record {
      sound = c.steps-end.ensures.sound;
      kind = c.in_ok-standing.ensures.kind;
      room = rw blocks room;
      so_far = begins_told g.P.CardPort.steps g.P.CardPort.card c.args.graph.now c.args.lines _ _ _ _ c.steps-end.ensures.sound all c.in_ok-standing.ensures.stand;
    }

pub returns-in-Some : goal.returns-in-Some
returns-in-Some g c = (
  c.loop.left.now,
  let i = c.loop.invariant in
      let p : Point = seen_point c.point.result.now in
      let w : World g.row.P.Denot =
      record { port = c.loop.port; input = c.loop.left.now; out = g.O.Write.contents c.loop.out; trace = g.T.Write.contents c.loop.trace } in
      let is = subst (λ k. IsWrongHere g.P.CardPort.card c.args.graph.now.lines k (stand_of c.loop.standing) c.loop.port p c.in-Some.wrong) i.kind (c.in-Some.ensures.wrong p refl) in
      stops_told g.P.CardPort.steps g.P.CardPort.card c.args.graph.now g.met.P.CardPort.keeps_tables i.sound c.args.lines _ _ _ (stand_of c.loop.standing) w i.so_far p c.point.ensures
      c.in-Some.wrong (g.T.Write.contents c.stop_before.new.trace) c.stop_before.result is c.stop_before.ensures,
)

pub returns-in-Some-2 : goal.returns-in-Some-2
returns-in-Some-2 g c =
    let i = c.loop.invariant in
    let p : Point = seen_point c.point.result.now in
    let before : World g.row.P.Denot =
    record { port = c.loop.port; input = c.loop.left.now; out = g.O.Write.contents c.loop.out; trace = g.T.Write.contents c.loop.trace } in
    let w : World g.row.P.Denot =
    record { port = c.step.new.world.0; input = c.step.new.world.1.0.now; out = g.O.Write.contents c.step.new.world.1.1.0; trace = g.T.Write.contents c.step.new.world.1.1.1.0 } in
    let allowed = subst (λ k. IsAllowedAt g.P.CardPort.card k (stand_of c.loop.standing) c.loop.port p) i.kind (c.in_default.ensures.allowed p refl) in
    let halts = rw c.in-Some-2.is at c.in_ok-end.ensures.stepped in (
      c.step.new.world.1.0.now,
      ends_told g.P.CardPort.steps g.P.CardPort.card c.args.graph.now g.met.P.CardPort.keeps_tables i.sound c.args.lines _ _ _ (stand_of c.loop.standing) before i.so_far p c.point.ensures
          w c.in-Some-2.end (g.T.Write.contents c.write_end.new.trace) allowed
          (subst (λ k. (action_move k p.action c.loop.standing.turns.items (host_of c.loop.standing.host) ≡ Halts (ending_of c.in-Some-2.end)) × (w ≡ before)) i.kind halts)
          c.in_ok-write_end.ensures,
    )

pub returns-in_err-write_end : goal.returns-in_err-write_end
returns-in_err-write_end g c =
    let i = c.loop.invariant in
    let p : Point = seen_point c.point.result.now in
    let before : World g.row.P.Denot =
    record { port = c.loop.port; input = c.loop.left.now; out = g.O.Write.contents c.loop.out; trace = g.T.Write.contents c.loop.trace } in
    let w : World g.row.P.Denot =
    record { port = c.step.new.world.0; input = c.step.new.world.1.0.now; out = g.O.Write.contents c.step.new.world.1.1.0; trace = g.T.Write.contents c.step.new.world.1.1.1.0 } in
    let allowed = subst (λ k. IsAllowedAt g.P.CardPort.card k (stand_of c.loop.standing) c.loop.port p) i.kind (c.in_default.ensures.allowed p refl) in
    let halts = rw c.in-Some-2.is at c.in_ok-end.ensures.stepped in
    let cut = cut_at_end_told g.P.CardPort.steps g.P.CardPort.card c.args.graph.now g.met.P.CardPort.keeps_tables i.sound c.args.lines _ _ _ (stand_of c.loop.standing) before i.so_far
    p c.point.ensures w c.in-Some-2.end (g.T.Write.contents c.write_end.new.trace) allowed
    (subst (λ k. (action_move k p.action c.loop.standing.turns.items (host_of c.loop.standing.host) ≡ Halts (ending_of c.in-Some-2.end)) × (w ≡ before)) i.kind halts)
    c.in_err-write_end.ensures in
    (c.step.new.world.1.0.now, by_fault g.P.CardPort.steps g.P.CardPort.card c.args.graph.now c.args.lines _ _ _ _ c.from_residual-in_err-write_end.ensures.1 cut)

pub returns-in_err-end : goal.returns-in_err-end
returns-in_err-end g c =
    let i = c.loop.invariant in
    let p : Point = seen_point c.point.result.now in
    let fault = c.in_err-end.field-0.0 in
    let at = stand_of c.loop.standing in
    let before : World g.row.P.Denot =
    record { port = c.loop.port; input = c.loop.left.now; out = g.O.Write.contents c.loop.out; trace = g.T.Write.contents c.loop.trace } in
    let w : World g.row.P.Denot =
    record { port = c.step.new.world.0; input = c.step.new.world.1.0.now; out = g.O.Write.contents c.step.new.world.1.1.0; trace = g.T.Write.contents c.step.new.world.1.1.1.0 } in
    let allowed = subst (λ k. IsAllowedAt g.P.CardPort.card k at c.loop.port p) i.kind (c.in_default.ensures.allowed p refl) in
    let cut = cuts_told g.P.CardPort.steps g.P.CardPort.card c.args.graph.now g.met.P.CardPort.keeps_tables i.sound c.args.lines _ _ _ at before i.so_far p c.point.ensures allowed fault w
    (subst (λ k. CutShort fault k g.P.CardPort.steps (action_move k p.action at.turns at.host) before w) i.kind c.in_err-end.ensures.stepped) in
    (c.step.new.world.1.0.now, search (rules, cut))

pub loop-preserved : goal.loop-preserved
loop-preserved g c =
    let i = c.loop.invariant in
    let p : Point = seen_point c.point.result.now in
    let start : World g.row.P.Denot =
    record { port = c.args.port.now; input = c.args.input.now; out = g.O.Write.contents c.args.out.now; trace = g.T.Write.contents c.args.trace.now } in
    let before : World g.row.P.Denot =
    record { port = c.loop.port; input = c.loop.left.now; out = g.O.Write.contents c.loop.out; trace = g.T.Write.contents c.loop.trace } in
    let w : World g.row.P.Denot =
    record { port = c.step.new.world.0; input = c.step.new.world.1.0.now; out = g.O.Write.contents c.step.new.world.1.1.0; trace = g.T.Write.contents c.step.new.world.1.1.1.0 } in
    let steps = g.P.CardPort.steps in
    let card = g.P.CardPort.card in
    let f = c.args.graph.now in
    let s = stand_of c.step.new.standing in
    let at = stand_of c.loop.standing in
    let allowed = subst (λ k. IsAllowedAt card k at c.loop.port p) i.kind (c.in_default.ensures.allowed p refl) in
    let leads = subst (λ k. Leads k steps (action_move k p.action at.turns at.host) before w s) i.kind (rw c.in_default-2.is at c.in_ok-end.ensures.stepped) in
    let len : length c.loop.held ≡ length c.step.new.held = sym c.step.auto.held in
    let less : c.steps-end.result - c.loop.counter - 1 ≡ c.steps-end.result - (c.loop.counter + 1) = omega arith in
    let on = goes_told steps card f g.met.P.CardPort.keeps_tables i.sound c.args.lines _ start _ at before i.so_far p c.point.ensures i.room allowed s w leads
    (g.T.Write.contents c.tell_change.new.trace) c.in_ok-tell_change.ensures in
    let after : World g.row.P.Denot = record w { trace = g.T.Write.contents c.tell_change.new.trace } in
    record {
      sound = i.sound;
      kind = c.in_ok-end.ensures.kind ∙ i.kind;
      room = subst (AnnounceAtMost f.points) len i.room;
      so_far = subst (λ (room : ℕ). Telling steps card f c.args.lines room start (c.steps-end.result - (c.loop.counter + 1)) s after) len
          (subst (λ (n : ℕ). Telling steps card f c.args.lines (length c.loop.held) start n s after) less on);
    }

pub returns-in_err-tell_change : goal.returns-in_err-tell_change
returns-in_err-tell_change g c =
    let i = c.loop.invariant in
    let p : Point = seen_point c.point.result.now in
    let before : World g.row.P.Denot =
    record { port = c.loop.port; input = c.loop.left.now; out = g.O.Write.contents c.loop.out; trace = g.T.Write.contents c.loop.trace } in
    let w : World g.row.P.Denot =
    record { port = c.step.new.world.0; input = c.step.new.world.1.0.now; out = g.O.Write.contents c.step.new.world.1.1.0; trace = g.T.Write.contents c.step.new.world.1.1.1.0 } in
    let steps = g.P.CardPort.steps in
    let card = g.P.CardPort.card in
    let s = stand_of c.step.new.standing in
    let at = stand_of c.loop.standing in
    let allowed = subst (λ k. IsAllowedAt card k at c.loop.port p) i.kind (c.in_default.ensures.allowed p refl) in
    let leads = subst (λ k. Leads k steps (action_move k p.action at.turns at.host) before w s) i.kind (rw c.in_default-2.is at c.in_ok-end.ensures.stepped) in
    let cut = cut_at_change steps card c.args.graph.now g.met.P.CardPort.keeps_tables i.sound c.args.lines _ _ _ at before i.so_far p c.point.ensures i.room allowed s w leads
    (g.T.Write.contents c.tell_change.new.trace) c.in_err-tell_change.ensures in
    (c.step.new.world.1.0.now, by_fault steps card c.args.graph.now c.args.lines _ _ _ _ c.from_residual-in_err-tell_change.ensures.1 cut)

pub wrong_at-requires : goal.wrong_at-requires
wrong_at-requires g c = is_point _ _ _ _ c.loop.invariant.so_far.watching.so_far.lasts
