use Rattle.std.proofs.Common.{subst, sym}
use Rattle.sdv_search.specs.Swept.{AreRows}
use Rattle.sdv_search.proofs.SweptLaws.{rows_push}
use Rattle.sdv_search.proofs.sweeping.Common.rows.Goals as goal

pub loop-number-preserved : goal.loop-number-preserved
loop-number-preserved g c =
    let self = c.args.self.now in
    subst (AreRows self.graph.now self.desc self.image.now self.input.now _) (sym c.in_ok-push.ensures.items)
    (rows_push self.graph.now self.desc self.image.now self.input.now _ c.loop-number.rows.items c.in_ok-row.field-0 c.loop-number.invariant
    c.in_ok-row.ensures.row c.in_ok-row.ensures.event)
