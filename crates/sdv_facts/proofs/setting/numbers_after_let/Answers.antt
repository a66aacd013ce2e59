use Rattle.std.proofs.Common.{◌≡◌, rules, subst, Some}
use Rattle.sdv_facts.specs.AfterLet.{after_let}
use Rattle.sdv_facts.specs.Facts.{facts_with}
use Rattle.sdv_facts.specs.Keeps.{KeptByLet}
use Rattle.sdv_facts.proofs.LetLaws.{let_keeps}
use Rattle.sdv_facts.proofs.setting.numbers_after_let.Goals as goal

pub returns-in_err-known-clause-keeps : goal.returns-in_err-known-clause-keeps
returns-in_err-known-clause-keeps c =
    let rule : after_let c.args.kind (facts_with c.args.shapes.now c.args.numbers.now) c.args.set.now ≡ c.from_residual.result = search rules in
    subst (KeptByLet c.args.kind (facts_with c.args.shapes.now c.args.numbers.now) c.args.set.now) rule (let_keeps c.args.kind (facts_with c.args.shapes.now c.args.numbers.now) c.args.set.now)

pub returns-clause-keeps : goal.returns-clause-keeps
returns-clause-keeps c =
    let rule : after_let c.args.kind (facts_with c.args.shapes.now c.args.numbers.now) c.args.set.now ≡ Some c.with_var.result = search rules in
    subst (KeptByLet c.args.kind (facts_with c.args.shapes.now c.args.numbers.now) c.args.set.now) rule (let_keeps c.args.kind (facts_with c.args.shapes.now c.args.numbers.now) c.args.set.now)
