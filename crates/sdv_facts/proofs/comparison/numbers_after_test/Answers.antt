use Rattle.std.proofs.Common.{◌≡◌, rules, subst}
use Rattle.sdv_facts.specs.AfterTest.{after_test}
use Rattle.sdv_facts.specs.Facts.{facts_with}
use Rattle.sdv_facts.specs.Keeps.{KeptByTest}
use Rattle.sdv_facts.proofs.TestLaws.{test_keeps}
use Rattle.sdv_facts.proofs.comparison.numbers_after_test.Goals as goal

pub returns-in-AtLeast-clause-keeps : goal.returns-in-AtLeast-clause-keeps
returns-in-AtLeast-clause-keeps c shapes =
    let rule : after_test c.args.numbers.now c.args.test.now ≡ c.at_least.result = search rules in
    let known = facts_with shapes c.args.numbers.now in
    subst (KeptByTest known c.args.test.now) rule (test_keeps known c.args.test.now)

pub returns-in-Below-clause-keeps : goal.returns-in-Below-clause-keeps
returns-in-Below-clause-keeps c shapes =
    let rule : after_test c.args.numbers.now c.args.test.now ≡ c.below.result = search rules in
    let known = facts_with shapes c.args.numbers.now in
    subst (KeptByTest known c.args.test.now) rule (test_keeps known c.args.test.now)
