use Rattle.std.proofs.Common.{rules, sym, refl}
use Rattle.sdv_facts.specs.Shared.{point_in, points_in}
use Rattle.sdv_facts.proofs.SharedLaws.{named_there}
use Rattle.sdv_check.proofs.CheckLaws.{facts_at, variables_of}
use Rattle.sdv_calls.proofs.covering.start_covers.Goals as goal

pub starts_at-requires-clause-same : goal.starts_at-requires-clause-same
starts_at-requires-clause-same c =
    let sets = c.args.said.table.now in
    let points = c.args.said.points.now in
    variables_of c.args.graph.now (points_in sets points) 0 (point_in sets c.in-Some.facts.now) c.requires
    (facts_at sets points (points_in sets points) 0 c.in-Some.facts.now refl (sym c.in-Some.ensures.value))

pub starts_at-requires-clause-named : goal.starts_at-requires-clause-named
starts_at-requires-clause-named c =
    named_there c.args.said.table.now c.args.said.points.now 0 c.in-Some.facts.now c.args.said.named (sym c.in-Some.ensures.value)

pub returns-in-Some : goal.returns-in-Some
returns-in-Some c =
    let sets = c.args.said.table.now in
    let points = c.args.said.points.now in
    let there = facts_at sets points (points_in sets points) 0 c.in-Some.facts.now refl (sym c.in-Some.ensures.value) in
    search (there, rules)
