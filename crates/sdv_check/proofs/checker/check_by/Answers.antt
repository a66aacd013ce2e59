use Rattle.std.proofs.Common.{[], sym, ap, ◌∙◌, subst}
use Rattle.std.specs.Prelude.{slice_get}
use Rattle.sdv_graph.specs.Path.{turns_at}
use Rattle.sdv_facts.specs.Bounds.{bound_at}
use Rattle.sdv_check.specs.Checked.{Fails}
use Rattle.sdv_check.proofs.CheckLaws.{all_closed, fails}
use Rattle.sdv_check.proofs.checker.check_by.Goals as goal

pub returns-in-Some : goal.returns-in-Some
returns-in-Some g c =
    let graph = c.args.graph.now in
    let ps = c.args.certificate.now.points in
    let fault = fails graph ps c.in-Some.clause c.in-Some.number (c.points_match.ensures.0 c.if-not-points_match.false)
    (c.start_covers.ensures.0 c.if-not-start_covers.false) c.in-Some.ensures in
    subst (λ v. Fails graph ps v) (sym c.fault_of.ensures) fault

pub returns-in-None : goal.returns-in-None
returns-in-None g c =
    let graph = c.args.graph.now in
    let ps = c.args.certificate.now.points in
    let closed = all_closed graph ps (c.points_match.ensures.0 c.if-not-points_match.false)
    (c.start_covers.ensures.0 c.if-not-start_covers.false) c.in-None.ensures in (
      closed,
      c.bound_at_start.ensures ∙ ap (λ t. bound_at (slice_get ps 0) (turns_at t [])) c.requires.first,
    )
