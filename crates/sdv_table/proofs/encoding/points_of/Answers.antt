use Rattle.std.proofs.Common.{◌≡◌, length, take, ap, arith}
use Rattle.sdv_graph.specs.Graph.{seen_action}
use Rattle.sdv_table.specs.Table.{rows}
use Rattle.sdv_table.proofs.Greatest.{parts_grown}
use Rattle.sdv_table.proofs.Growing.{done_next, rows_taken}
use Rattle.sdv_table.proofs.encoding.points_of.Goals as goal

pub returns-then-row-start-clause-reason : goal.returns-then-row-start-clause-reason
returns-then-row-start-clause-reason c =
    let g = c.args.graph.now in
    let points : c.args.counts.points ≡ length g.points = ap (λ c. c.points) c.requires.same in
    let here : length c.loop-number.rows.items ≡ length (rows g.kind (take c.loop-number.number g.points)) =
    ap length c.loop-number.invariant.rows in
    let less = rows_taken g.kind g.points c.loop-number.number in
    omega arith

pub head-requires : goal.head-requires
head-requires c = parts_grown c.args.counts (seen_action c.point.result.now.action) c.requires.fit (c.action_fits.ensures.yes (cc)).parts

pub put_row-requires : goal.put_row-requires
put_row-requires c = parts_grown c.args.counts (seen_action c.point.result.now.action) c.requires.fit (c.action_fits.ensures.yes (cc)).parts

pub loop-number-preserved : goal.loop-number-preserved
loop-number-preserved c =
    let g = c.args.graph.now in
    let place : c.len-row.result ≡ length c.loop-number.rows.items = omega arith in
    done_next g.kind _ g.points c.loop-number.number c.kind-kind.ensures c.requires.same c.loop-number.invariant c.point.ensures
    (c.action_fits.ensures.yes (cc)) c.head.ensures.head place
    c.in_ok-push.ensures.items c.in_ok-put_row.ensures
