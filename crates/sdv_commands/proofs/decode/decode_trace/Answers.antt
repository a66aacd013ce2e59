use Rattle.sdv_commands.proofs.decode.decode_trace.Goals as goal

pub returns-in-None : goal.returns-in-None
returns-in-None g c = rw c.in-None.is (rw c.form_of-form.ensures at c.decode_texts.ensures)

pub returns-in-Some : goal.returns-in-Some
returns-in-Some g c = rw c.in-Some.is (rw c.form_of-form.ensures at c.decode_given.ensures)
