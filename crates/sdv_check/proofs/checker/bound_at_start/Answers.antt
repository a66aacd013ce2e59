use Rattle.std.proofs.Common.{◌≡◌, ◌∙◌, All, ap, sym, subst, reverse, arith}
use Rattle.sdv_facts.specs.Limits.{IsInLimits}
use Rattle.sdv_facts.specs.Shared.{point_in}
use Rattle.sdv_check.specs.Turns.{entering}
use Rattle.sdv_check.proofs.CheckLaws.{all_reversed, facts_at, in_limits}
use Rattle.sdv_check.proofs.WorstTurns.{bound_first}
use Rattle.sdv_check.proofs.checker.bound_at_start.Goals as goal

pub first_cost-requires : goal.first_cost-requires
first_cost-requires c =
    let limit = in_limits c.shown.result.0.now c.shown.result.1.now c.args.certificate.now.points 0 c.in-Some.facts.now c.shown.ensures.value c.shown.ensures.limits
    (sym c.in-Some.ensures.value) in
    let is : c.deref.result.now ≡ reverse c.in-Some.facts.now.turns.items = c.deref.ensures.0 ∙ c.costs.ensures in
    subst (All IsInLimits) (sym is) (all_reversed IsInLimits c.in-Some.facts.now.turns.items limit.turns)

pub overflow_add-result : goal.overflow_add-result
overflow_add-result c =
    let limit = in_limits c.shown.result.0.now c.shown.result.1.now c.args.certificate.now.points 0 c.in-Some.facts.now c.shown.ensures.value c.shown.ensures.limits
    (sym c.in-Some.ensures.value) in
    let base = limit.base in
    omega (arith, base, c.first_cost.ensures.room)

pub returns-in-Some : goal.returns-in-Some
returns-in-Some c =
    bound_first c.args.certificate.now.points (point_in c.shown.result.0.now c.in-Some.facts.now) c.args.first c.first_cost.result
    (facts_at c.shown.result.0.now c.shown.result.1.now c.args.certificate.now.points 0 c.in-Some.facts.now c.shown.ensures.value (sym c.in-Some.ensures.value))
    (c.first_cost.ensures.cost ∙ ap (λ cs. entering c.args.first.enter cs) (c.deref.ensures.0 ∙ c.costs.ensures))
