use Rattle.sdv_graph.specs.Nested.{Same}
use Rattle.sdv_check.specs.Asked.{RuleFrom}
use Rattle.sdv_check.proofs.PointLaws.{cases_of_command}
use Rattle.sdv_check.proofs.edges.outcome_holds.Goals as goal

pub returns-in-Cases : goal.returns-in-Cases
returns-in-Cases c =
    cases_of_command c.args.exits c.in-Cases.cases c.args.other c.args.outcome.now.seen
    (λ t. RuleFrom c.args.rules c.args.at Same t c.args.outcome.now.shape c.args.at.facts.now.facts.numbers)
    c.cases_hold.result c.in-Cases.is c.cases_hold.ensures
