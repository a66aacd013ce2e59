use Rattle.std.proofs.Common.{arith}
use Rattle.sdv_graph.specs.Tree.{statements_of}
use Rattle.sdv_script.specs.Place.{names_of, progress_of}
use Rattle.sdv_driver.proofs.Taken.{body-counted}
use Rattle.sdv_driver.proofs.entries.entry.Goals as goal

pub overflow_sub-result : goal.overflow_sub-result
overflow_sub-result c =
    let counted = body-counted (names_of c.in_ok-head.head.names) _ (statements_of c.in_ok-body.body) (progress_of c.body.new.from) c.in_ok-body.ensures in
    omega (arith, counted)

pub invariant_of-result : goal.invariant_of-result
invariant_of-result c =
    let counted = body-counted (names_of c.in_ok-head.head.names) _ (statements_of c.in_ok-body.body) (progress_of c.body.new.from) c.in_ok-body.ensures in
    record { counted = omega (arith, counted) }
