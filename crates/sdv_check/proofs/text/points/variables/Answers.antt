use Rattle.std.proofs.Common.{◌∙◌, Some, sym, arith}
use Rattle.std.proofs.lemmas.Result.{err_from_is_err_and}
use Rattle.std.proofs.lemmas.Bool.Decides.{nat_tests}
use Rattle.sdv_check.specs.Reading.{begins_var, read_var}
use Rattle.sdv_check.proofs.Lists.{each_more, each_full, each_fails, each_done}
use Rattle.sdv_check.proofs.text.points.variables.Goals as goal

pub returns-in_err-known : goal.returns-in_err-known
returns-in_err-known c =
    let i = c.loop-version.invariant in
    let p = err_from_is_err_and c.from_residual.result c.from_residual.ensures.1 in
    rw (p.1, p.2) (each_fails begins_var (λ last. read_var c.args.version) c.in_err-known.field-0.0 8 c.loop-version.vars.items i.1.0 c.loop-version.at.rest.now _
    (sym c.begins_variable.ensures ∙ c.loop-version-test.true) c.in_err-known.ensures i.1.1)

pub returns-then-is_full : goal.returns-then-is_full
returns-then-is_full c =
    let i = c.loop-version.invariant in
    each_full begins_var (λ last. read_var c.args.version) 8 c.loop-version.vars.items i.1.0 c.loop-version.at.rest.now _ (sym c.begins_variable.ensures ∙ c.loop-version-test.true)
    (grind (arith, nat_tests)) i.1.1

pub loop-version-preserved : goal.loop-version-preserved
loop-version-preserved c =
    let i = c.loop-version.invariant in (
      grind (arith, nat_tests),
      (
        Some c.in_ok-known.known,
        rw c.push.ensures.items (each_more begins_var
            (λ last. read_var c.args.version) 8 c.loop-version.vars.items i.1.0 c.loop-version.at.rest.now c.in_ok-known.known c.variable.new.at.rest.now _
            (sym c.begins_variable.ensures ∙ c.loop-version-test.true) (grind (arith, nat_tests)) c.in_ok-known.ensures i.1.1),
      ),
    )

pub returns : goal.returns
returns c =
    let i = c.loop-version.invariant in
    each_done begins_var (λ last. read_var c.args.version) 8 c.loop-version.vars.items i.1.0 c.loop-version.at.rest.now _
    (sym c.begins_variable.ensures ∙ c.loop-version-test.false) i.1.1
