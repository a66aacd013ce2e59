use Rattle.std.proofs.Common.{◌≤◌, length, rules, subst}
use Rattle.std.specs.Prelude.{IfSome}
use Rattle.sdv_registers.specs.declared.kind.Kind.{Kind}
use Rattle.sdv_explain.specs.Explained.{IsRefusedSo}
use Rattle.sdv_explain.specs.Known.{facts_here}
use Rattle.sdv_graph.specs.Graph.{seen_point}
use Rattle.sdv_explain.proofs.ExplainedLaws.{named_none, named_refuses, no_facts, no_place, no_point}
use Rattle.sdv_explain.proofs.refusal.failure_named.Goals as goal

pub returns-in_default-clause-none : goal.returns-in_default-clause-none
returns-in_default-clause-none c = no_point c.args.graph.now c.args.known.now.points c.args.fault c.in_default.ensures.none

pub returns-then-len-number-clause-none : goal.returns-then-len-number-clause-none
returns-then-len-number-clause-none c =
    let past : length c.args.graph.now.points ≤ c.in-Some.number = search rules in
    no_place c.args.graph.now c.args.known.now.points c.args.fault c.in-Some.number c.in-Some.ensures.point past

pub returns-in_default-known_at-clause-none : goal.returns-in_default-known_at-clause-none
returns-in_default-known_at-clause-none c =
    no_facts c.args.graph.now c.args.known.now.points c.args.fault c.in-Some.number c.in-Some.ensures.point c.in_default-known_at.ensures.none

pub returns-clause-refused : goal.returns-clause-refused
returns-clause-refused c =
    named_refuses c.args.graph.now c.args.known.now.points c.args.fault c.in-Some.number c.in-Some.ensures.point (seen_point c.point.result.now) c.point.ensures
    c.in-Some-known_at.here c.in-Some-known_at.ensures.known c.failure_by.result
    (subst (λ (k : Kind). IfSome c.failure_by.result
    (IsRefusedSo c.args.fault k (seen_point c.point.result.now).action (facts_here c.in-Some-known_at.here) c.in-Some.number))
    c.kind.ensures c.failure_by.ensures.refused)

pub returns-clause-none : goal.returns-clause-none
returns-clause-none c =
    named_none c.args.graph.now c.args.known.now.points c.args.fault c.in-Some.number c.in-Some.ensures.point (seen_point c.point.result.now) c.point.ensures
    c.in-Some-known_at.here c.in-Some-known_at.ensures.known c.failure_by.result c.failure_by.ensures.none
