use Rattle.std.proofs.Common.{◌∙◌, sym}
use Rattle.std.proofs.lemmas.Result.{err_from_is_err_and}
use Rattle.sdv_script.specs.Place.{tokens_at}
use Rattle.sdv_script.proofs.GuardLaws.{guards_go_on, guards_shrink, guards_end, guards_fail}
use Rattle.sdv_script.proofs.guards.guard_list.Goals as goal

pub returns-in_err-first : goal.returns-in_err-first
returns-in_err-first c =
    let p = err_from_is_err_and c.from_residual.result c.from_residual.ensures.1 in
    rw (p.1, p.2, ← c.loop-guards.invariant) (guards_fail c.in_err-first.field-0.0 c.args.order c.loop-guards.guards.items
    (tokens_at c.loop-guards.at) c.in_err-first.ensures)

pub loop-guards-smaller : goal.loop-guards-smaller
loop-guards-smaller c =
    guards_shrink c.args.order (tokens_at c.loop-guards.at) c.in_ok-first.first (tokens_at c.guard.new.at) (tokens_at c.takes_and.new.at) c.in_ok-first.ensures
    c.if-not-takes_and.ensures

pub loop-guards-preserved : goal.loop-guards-preserved
loop-guards-preserved c =
    rw c.in_ok-push.ensures.items
    (guards_go_on c.args.order c.loop-guards.guards.items (tokens_at c.loop-guards.at) c.in_ok-first.first (tokens_at c.guard.new.at)
    (tokens_at c.takes_and.new.at) c.in_ok-first.ensures c.if-not-takes_and.ensures ∙ c.loop-guards.invariant)

pub returns-then-not-takes_and : goal.returns-then-not-takes_and
returns-then-not-takes_and c =
    rw (c.if-not-takes_and.ensures.1, c.in_ok-push.ensures.items)
    (sym c.loop-guards.invariant ∙ guards_end c.args.order c.loop-guards.guards.items (tokens_at c.loop-guards.at) c.in_ok-first.first
    (tokens_at c.guard.new.at) c.in_ok-first.ensures c.if-not-takes_and.ensures.0)
