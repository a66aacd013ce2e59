use Rattle.sdv_registers.proofs.status.Status.state.Goals as goal

pub returns : goal.returns
returns c = c.word_field.ensures.value
