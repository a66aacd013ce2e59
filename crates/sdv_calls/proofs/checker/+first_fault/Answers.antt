use Rattle.sdv_calls.specs.Shown.{points_said, rest_said}
use Rattle.sdv_calls.proofs.PartLaws.{later}
use Rattle.sdv_calls.proofs.checker.+first_fault.Goals as goal

pub returns-in-None : goal.returns-in-None
returns-in-None g t c =
    later (rest_said c.args.said) (rest_said c.split.result.0) (rest_said c.split.result.1) c.args.graphs.now c.in-Some.graph.now c.in-Some.graphs.now
    (points_said c.args.said) (points_said c.split.result.0) (points_said c.split.result.1) c.args.from c.len.result c.first_fault.result
    c.in-Some.ensures.cases.0 c.split.ensures.here c.split.ensures.behind c.split.ensures.rest_here c.split.ensures.rest_behind c.len.ensures
    c.in-None.ensures c.first_fault.ensures
