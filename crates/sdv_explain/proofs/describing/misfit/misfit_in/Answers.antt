use Rattle.std.proofs.Common.{◌≡◌, ◌∙◌, ◌+◌, ◌-◌, Some, ap, arith, option_map, sym}
use Rattle.sdv_explain.specs.Misfits.{misfit_from, step}
use Rattle.sdv_explain.proofs.MisfitLaws.{goes_on, stops}
use Rattle.sdv_explain.proofs.describing.misfit.misfit_in.Goals as goal

pub loop-line-preserved : goal.loop-line-preserved
loop-line-preserved c =
    let line = c.loop-line.line in
    let next : step c.loop-line.field c.loop-line.rest.now ≡ Some (c.in-Some.next, c.in-Some.behind.now) =
    sym c.step.ensures ∙ ap (option_map (λ x. (x.0, x.1.now))) c.in-Some.is in
    let further : 10 - line - 1 ≡ 10 - (line + 1) = omega arith in
    record {
      within = omega arith;
      same = ap (λ n. misfit_from n (line + 1) c.in-Some.next c.in-Some.behind.now) (sym further)
          ∙ (sym (goes_on (10 - line) line c.loop-line.field c.in-Some.next c.loop-line.rest.now c.in-Some.behind.now (omega arith) next)
          ∙ c.loop-line.invariant.same);
    }

pub returns : goal.returns
returns c =
    c.misfit_at-2.ensures
    ∙ (stops (10 - c.loop-line.line) c.loop-line.line 10 c.loop-line.field c.loop-line.rest.now (omega arith) (omega arith) ∙ c.loop-line.invariant.same)
