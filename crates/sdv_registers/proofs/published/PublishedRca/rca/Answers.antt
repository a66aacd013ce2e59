use Rattle.sdv_registers.proofs.published.PublishedRca.rca.Goals as goal

pub returns : goal.returns
returns c = c.word_field.ensures.value
