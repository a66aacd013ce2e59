use Rattle.std.proofs.Common.{rules, sym}
use Rattle.sdv_facts.specs.Shared.{point_in}
use Rattle.sdv_facts.proofs.SharedLaws.{named_there}
use Rattle.sdv_check.proofs.CheckLaws.{facts_at, variables_of}
use Rattle.sdv_check.proofs.checker.start_covers.Goals as goal

pub starts_at-requires-clause-same : goal.starts_at-requires-clause-same
starts_at-requires-clause-same c =
    let sets = c.shown.result.0.now in
    variables_of c.args.graph.now c.args.certificate.now.points 0 (point_in sets c.in-Some.facts.now) c.requires
    (facts_at sets c.shown.result.1.now c.args.certificate.now.points 0 c.in-Some.facts.now c.shown.ensures.value (sym c.in-Some.ensures.value))

pub starts_at-requires-clause-named : goal.starts_at-requires-clause-named
starts_at-requires-clause-named c =
    named_there c.shown.result.0.now c.shown.result.1.now 0 c.in-Some.facts.now c.shown.ensures.shared.named (sym c.in-Some.ensures.value)

pub returns-in-Some : goal.returns-in-Some
returns-in-Some c =
    let there = facts_at c.shown.result.0.now c.shown.result.1.now c.args.certificate.now.points 0 c.in-Some.facts.now c.shown.ensures.value
    (sym c.in-Some.ensures.value) in
    search (there, rules)
