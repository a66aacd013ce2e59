use Rattle.sdv_commands.proofs.program.report_usage.Goals as goal

pub returns-in-Ok-clause-said : goal.returns-in-Ok-clause-said
returns-in-Ok-clause-said g c = (c.as_slice.result.now, c.say_line.ensures.said)
