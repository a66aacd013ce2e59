use Rattle.std.proofs.Common.{◌≡◌, ◌∙◌, ◌+◌, ap, subst, sym, drop, length, arith, List, ℕ}
use Rattle.sdv_facts.specs.Shared.{point_in}
use Rattle.sdv_facts.specs.SharedSets.{members}
use Rattle.sdv_certify.specs.Pieces.{shapes_text, line_text}
use Rattle.sdv_certify.proofs.Written.{Held, failed, front_made, last_shape, no_shape, line_begins, one_held, line_failed, line_ends}
use Rattle.sdv_certify.proofs.writing.put_line.Goals as goal

pub loop-shape-init : goal.loop-shape-init
loop-shape-init g c =
    let front = front_made c.args.version c.new-line.result.items c.push_bound.new.line.items c.push_numbers.new.line.items c.args.place (point_in c.args.table.now c.args.point.now) c.new-line.ensures
    (c.push_bound.ensures.items c.args.table.now) (c.push_numbers.ensures.items c.args.table.now) in
    let none : length c.new-line.result.items ≡ 0 = ap length c.new-line.ensures in
    let out = g.W.Write.contents c.args.out.now in
    record {
      held = subst (λ s. Held (line_text c.args.version c.args.place (point_in c.args.table.now c.args.point.now)) out out c.push_numbers.new.line.items (shapes_text s))
          (sym (c.members-shapes.ensures.value ∙ ap (members c.args.table.now) c.set.ensures)) (line_begins out c.push_numbers.new.line.items c.args.version c.args.place (point_in c.args.table.now c.args.point.now) front);
      room = omega (arith, none, c.push_bound.ensures.len, c.push_numbers.ensures.len);
    }

pub returns-in_err-make_room : goal.returns-in_err-make_room
returns-in_err-make_room g c =
    failed c.from_residual.result _ _ (line_text c.args.version c.args.place (point_in c.args.table.now c.args.point.now)) c.from_residual.ensures.0
    (line_failed (line_text c.args.version c.args.place (point_in c.args.table.now c.args.point.now)) _ _ _ c.loop-shape.line.items _ c.loop-shape.invariant.held c.in_err-make_room.ensures.failed)

pub loop-shape-preserved : goal.loop-shape-preserved
loop-shape-preserved g c =
    let shapes = c.members-shapes.result.now in
    let i = c.loop-shape.shape-index in
    let line = line_text c.args.version c.args.place (point_in c.args.table.now c.args.point.now) in
    let old = g.W.Write.contents c.args.out.now in
    let mid = g.W.Write.contents c.loop-shape.out in
    record {
      held = one_held line old mid _ c.loop-shape.line.items c.make_room.new.line.items c.push_shape.new.line.items _ (shapes_text (drop (i + 1) shapes))
          (subst (λ (l : List ℕ). Held line old mid c.loop-shape.line.items l)
          (last_shape shapes i _ c.loop-shape-test.true) c.loop-shape.invariant.held) c.in_ok-make_room.ensures.passed c.push_shape.ensures.items;
      room = omega (arith, c.in_ok-make_room.ensures.room, c.push_shape.ensures.len);
    }

pub returns : goal.returns
returns g c =
    let line = line_text c.args.version c.args.place (point_in c.args.table.now c.args.point.now) in
    let old = g.W.Write.contents c.args.out.now in
    let mid = g.W.Write.contents c.loop-shape.out in
    line_ends c.write_text.result line old mid _ c.loop-shape.line.items c.as_slice.result.now
    (subst (λ (l : List ℕ). Held line old mid c.loop-shape.line.items l)
    (no_shape c.members-shapes.result.now c.loop-shape.shape-index c.loop-shape-test.false) c.loop-shape.invariant.held)
    (c.as_slice.ensures.value ∙ c.push.ensures.items) c.write_text.ensures
