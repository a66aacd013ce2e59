use Rattle.std.proofs.Common.{◌∙◌, List, ℕ, sym, subst, length}
use Rattle.sdv_driver.specs.Shown.{shown}
use Rattle.sdv_driver.specs.Lines.{driver_lines}
use Rattle.sdv_driver.specs.Tree.{Entry}
use Rattle.sdv_facts.specs.Facts.{PointFacts}
use Rattle.sdv_calls.specs.Closed.{PartsMatch, CallsFit, AreOfDriver}
use Rattle.sdv_calls.specs.Shown.{points_said, rest_said}
use Rattle.sdv_calls.proofs.DriverLaws.{calls_fit, driver_numbers, driver_graphs}
use Rattle.sdv_calls.proofs.checker.check_by.Goals as goal

pub calls_cover-requires-clause-fit : goal.calls_cover-requires-clause-fit
calls_cover-requires-clause-fit g c =
    let d = c.args.driver.now in
    let gs = c.args.graphs.now in
    let n = length (shown d).tree.names.numbers in
    let said = c.in-Some.said in
    let fit : CallsFit (shown d).tree.entries gs (rest_said said).numbers (points_said said)
    = calls_fit n (shown d).tree.entries gs (rest_said said).numbers (points_said said)
    (subst (λ (ps : List PointFacts). PartsMatch n gs ps) (sym c.in-Some.ensures.points)
    (subst (λ (m : ℕ). PartsMatch m gs c.args.certificate.now.points) c.numbers.ensures c.in-Some.ensures.matches))
    (driver_numbers d gs (driver_lines (shown d)) c.requires.graphs) (c.in-Some.ensures.many ∙ c.numbers.ensures) in
    subst (λ (es : List Entry). CallsFit es gs (rest_said said).numbers (points_said said)) (sym c.entries.ensures.entries) fit

pub first_fault-requires-clause-graphs : goal.first_fault-requires-clause-graphs
first_fault-requires-clause-graphs g c =
    let d = c.args.driver.now in
    let gs = c.args.graphs.now in
    subst (λ k. AreOfDriver k (length c.in-Some.said.rest.now.numbers.vars.items) gs) (sym c.requires.kind)
    (subst (λ (m : ℕ). AreOfDriver (shown d).tree.names.kind m gs) (sym (c.in-Some.ensures.many ∙ c.numbers.ensures))
    (driver_graphs d gs (driver_lines (shown d)) c.requires.graphs))

pub first_fault-requires-clause-matches : goal.first_fault-requires-clause-matches
first_fault-requires-clause-matches g c =
    let gs = c.args.graphs.now in
    subst (λ (m : ℕ). PartsMatch m gs (points_said c.in-Some.said)) (sym c.in-Some.ensures.many)
    (subst (λ (ps : List PointFacts). PartsMatch c.numbers.result gs ps) (sym c.in-Some.ensures.points) c.in-Some.ensures.matches)
