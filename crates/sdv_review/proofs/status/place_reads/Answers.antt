use Rattle.std.proofs.Common.{◌≤◌, ◌∙◌, ap, sym, subst}
use Rattle.std.proofs.lemmas.Option.{slice_get_past}
use Rattle.sdv_review.specs.Statuses.{place_reads}
use Rattle.sdv_review.proofs.status.place_reads.Goals as goal

pub returns-then-point-len : goal.returns-then-point-len
returns-then-point-len c =
    sym (ap (λ o. place_reads o c.args.variable)
    (slice_get_past c.args.graph.now.points c.args.point (subst (λ n. n ≤ c.args.point) c.len.ensures c.if-point-len.true)))

pub returns : goal.returns
returns c =
    c.action_reads.ensures ∙ sym (ap (λ o. place_reads o c.args.variable) c.point.ensures)
