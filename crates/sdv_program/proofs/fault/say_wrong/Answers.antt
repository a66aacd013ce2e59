use Rattle.sdv_program.proofs.fault.say_wrong.Goals as goal

pub returns : goal.returns
returns g c = (_, c.write_wrong_event.ensures)
