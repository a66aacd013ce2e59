use Rattle.std.proofs.Common.{take}
use Rattle.sdv_card.specs.declared.event.Outcome.{Outcome}
use Rattle.sdv_card.specs.Lists.{May}
use Rattle.sdv_graph.specs.Nested.{Same}
use Rattle.sdv_facts.specs.Edges.{EachWay}
use Rattle.sdv_check.specs.Asked.{RuleFrom}
use Rattle.sdv_check.specs.Exits.{cases_of_exits}
use Rattle.sdv_check.proofs.edges.outcomes_hold.Given as goal

abbrev pub invariant-loop-outcome : goal.invariant-loop-outcome
invariant-loop-outcome l = (o : Outcome) → May (take l.outcome-index l.outcomes) o →
    EachWay (cases_of_exits l.exits) l.other o.seen (λ t. RuleFrom l.rules l.at Same t o.shape l.at.facts.now.facts.numbers)
