-- One form above the limits is one of all.
use Rattle.std.proofs.Common.{rules, [], All, refl, sym, subst, arith, false}
use Rattle.std.specs.Prelude.{IsTrue}
use Rattle.std.proofs.lemmas.List.Elements.{All-push}
use Rattle.sdv_certify.specs.Forms.{full_form, FormInLimits}
use Rattle.sdv_certify.proofs.RestLaws.{map_more}
use Rattle.sdv_certify.proofs.TurnLaws.{limits_at}
use Rattle.sdv_certify.proofs.bounds.within_limits.Goals as goal

of_false : IsTrue false → ⊥
of_false h = search rules

pub returns-then-not-in_limits-clause-too_many : goal.returns-then-not-in_limits-clause-too_many
returns-then-not-in_limits-clause-too_many c =
    λ e all. of_false (c.if-not-in_limits.ensures.1 (rw c.whole-form.ensures
    (limits_at c.args.forms.now c.loop-form.form-index (record { base = 0; each = [] }) (omega arith) all)))

pub loop-form-init : goal.loop-form-init
loop-form-init c =
    record { same = c.new-within.ensures.items; limits = subst (λ l. All FormInLimits l) (sym c.new-within.ensures.items) (λ k d h. absurd (omega (arith, h))) }

pub loop-form-preserved : goal.loop-form-preserved
loop-form-preserved c =
    let old = c.loop-form.within.items in
    let fits : FormInLimits c.whole-form.result = search rules in
    record {
      same = map_more full_form c.args.forms.now c.loop-form.form-index _ old _ c.whole-form.result c.loop-form-test.true c.whole-form.ensures
          c.in_ok-push.ensures.items c.loop-form.invariant.same;
      limits = subst (λ l. All FormInLimits l) (sym c.in_ok-push.ensures.items)
          (All-push FormInLimits old c.whole-form.result c.loop-form.invariant.limits fits);
    }

pub returns-then-not-in_limits-clause-refused : goal.returns-then-not-in_limits-clause-refused
returns-then-not-in_limits-clause-refused c = λ other. refl
