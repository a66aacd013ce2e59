use Rattle.std.proofs.Common.{rules, ◌≡◌, ◌-◌, ◌∷◌, ◌++◌, [], All, length, sym, ap, ◌∙◌, subst, arith}
use Rattle.std.proofs.lemmas.Result.{err_from_is_err_and}
use Rattle.sdv_facts.specs.Shared.{IsNamed, point_in, points_in, sets_of}
use Rattle.sdv_facts.proofs.InternLaws.{at_most_one_more, named_within}
use Rattle.sdv_facts.proofs.SharedLaws.{one_point_more, all_named_more, table_more}
use Rattle.sdv_check.proofs.PointLoop.{points_more, points_fail, points_done}
use Rattle.sdv_check.proofs.text.points.points.Goals as goal

pub returns-in_err-point-clause-read : goal.returns-in_err-point-clause-read
returns-in_err-point-clause-read c =
    let p = err_from_is_err_and c.from_residual.result c.from_residual.ensures.1 in
    let seen = points_in c.loop-place.table c.loop-place.points.items in
    rw (p.1, p.2) (points_fail c.in_err-point.field-0.0 c.args.version c.args.count c.loop-place.place c.loop-place.room seen c.loop-place.at.rest.now _
    (omega arith) c.in_err-point.ensures.read c.loop-place.invariant.read)

pub loop-place-preserved : goal.loop-place-preserved
loop-place-preserved c =
    let old = c.loop-place.table in
    let new = c.point.new.table in
    let points = c.loop-place.points.items in
    let p = c.in_ok-point.point in
    let i = c.loop-place.invariant in
    let interned = c.in_ok-point.ensures.interned in
    let pushed : c.push.new.self.items ≡ points ++ p ∷ [] = c.in_ok-push.ensures.items in
    let more : points_in new c.push.new.self.items ≡ points_in old points ++ point_in new p ∷ [] =
    ap (points_in new) pushed ∙ one_point_more old new _ _ points p interned i.named in
    let len : c.len-room.result ≡ length c.point.new.list.items = search rules in
    let left : c.loop-place.room - c.len-room.result ≡ c.loop-place.room - length (point_in new p).facts.shapes =
    ap (λ n. c.loop-place.room - n) (len ∙ ap length (sym c.in_ok-point.ensures.shapes)) in
    let read = points_more c.args.version c.args.count c.loop-place.place c.loop-place.room (points_in old points) c.loop-place.at.rest.now (point_in new p)
    c.point.new.at.rest.now _ (omega arith) c.in_ok-point.ensures.read i.read in
    record {
      read = rw (more, left) read;
      named = subst (λ l. All (IsNamed new) l) (sym pushed) (all_named_more old new _ _ points p interned i.named (named_within old new _ _ interned));
      table = subst (λ l. new ≡ sets_of (points_in new l)) (sym pushed) (table_more old new _ points p interned i.named i.table);
      few = (let f = i.few in omega (arith, f, at_most_one_more old new _ _ interned));
    }

pub returns-clause-read : goal.returns-clause-read
returns-clause-read c =
    points_done c.args.version c.args.count c.loop-place.place c.loop-place.room (points_in c.loop-place.table c.loop-place.points.items) c.loop-place.at.rest.now _
    (omega arith) c.loop-place.invariant.read
