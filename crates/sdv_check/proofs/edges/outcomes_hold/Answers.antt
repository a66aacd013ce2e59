use Rattle.sdv_card.specs.declared.event.Outcome.{Outcome}
use Rattle.sdv_graph.specs.Nested.{Same}
use Rattle.sdv_facts.specs.Edges.{EachWay}
use Rattle.sdv_check.specs.Asked.{RuleFrom}
use Rattle.sdv_check.specs.Exits.{cases_of_exits}
use Rattle.sdv_check.proofs.PointLaws.{fails_at, each_more}
use Rattle.sdv_check.proofs.edges.outcomes_hold.Goals as goal

pub returns-then-not-outcome_holds : goal.returns-then-not-outcome_holds
returns-then-not-outcome_holds c =
    let P : Outcome → Type 0 = λ o. EachWay (cases_of_exits c.args.exits) c.args.other o.seen
    (λ t. RuleFrom c.args.rules c.args.at Same t o.shape c.args.at.facts.now.facts.numbers) in
    fails_at P c.args.outcomes.now c.loop-outcome.outcome-index _ c.outcome_holds.result c.loop-outcome-test.true c.outcome_holds.ensures
    c.if-not-outcome_holds.true

pub loop-outcome-preserved : goal.loop-outcome-preserved
loop-outcome-preserved c =
    let P : Outcome → Type 0 = λ o. EachWay (cases_of_exits c.args.exits) c.args.other o.seen
    (λ t. RuleFrom c.args.rules c.args.at Same t o.shape c.args.at.facts.now.facts.numbers) in
    each_more P c.args.outcomes.now c.loop-outcome.outcome-index _ c.loop-outcome-test.true c.loop-outcome.invariant
    (c.outcome_holds.ensures.0 c.if-not-outcome_holds.false)
