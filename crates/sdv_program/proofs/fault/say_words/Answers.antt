use Rattle.sdv_program.proofs.fault.say_words.Goals as goal

pub returns : goal.returns
returns g c = (_, c.write_texts.ensures)
