use Rattle.sdv_table.specs.Reading.{seen_row}
use Rattle.sdv_player.proofs.Passed.{passes_on, ends_as}
use Rattle.sdv_player.proofs.passing.pass.Goals as goal

pub returns-in-Ok-clause-passes : goal.returns-in-Ok-clause-passes
returns-in-Ok-clause-passes c =
    let steps = rw c.in-Ok.is at c.step.ensures.steps in
    passes_on (seen_row c.args.row) c.args.state.now c.step.new.state c.in-Ok.target c.go_to.new.self steps
    (record { point = c.go_to.ensures.point; turns = c.go_to.ensures.turns })

pub returns-in-Err-clause-passes : goal.returns-in-Err-clause-passes
returns-in-Err-clause-passes c =
    let steps = rw c.in-Err.is at c.step.ensures.steps in
    ends_as (seen_row c.args.row) c.args.state.now c.step.new.state c.in-Err.end steps
