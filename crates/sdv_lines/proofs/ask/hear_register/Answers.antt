use Rattle.std.proofs.Common.{◌∙◌, rules, ap, refl, sym, length}
use Rattle.sdv_card.specs.declared.answer.DataEnd.TheVariants.{Cut}
use Rattle.sdv_card.specs.Port.{DataInRegister}
use Rattle.sdv_card.specs.ScriptEvent.{RegisterIn}
use Rattle.sdv_lines.specs.Answers.{data_end_text}
use Rattle.sdv_lines.specs.Texts.{trimmed}
use Rattle.sdv_lines.proofs.HeardLaws.{unread, heard_one, refused, no_register}
use Rattle.sdv_lines.proofs.DataLaws.{heard_register, unheard_register}
use Rattle.sdv_lines.proofs.ask.hear_register.Goals as goal

pub returns-in_err-read_line : goal.returns-in_err-read_line
returns-in_err-read_line g c = λ lines.
    let none = unread (DataInRegister lines (length c.args.bytes.now)) (g.R.Read.remaining c.args.reader.now)
    (g.R.Read.remaining c.read_line.new.reader) c.in_err-read_line.field-0.0 c.in_err-read_line.ensures.0 in
    search rules

pub returns-in-Ok : goal.returns-in-Ok
returns-in-Ok g c = λ lines.
    let read = c.in_ok-read_line.ensures in
    heard_register lines (length c.args.bytes.now) _ (g.R.Read.remaining c.read_line.new.reader) _ c.read_line.new.line.text.items
    c.read_digits.new.bytes read.0 (sym c.words.ensures ∙ c.in-Some-Ok.ensures ∙ ap data_end_text c.in-Some-Ok.field-0-is) read.1 c.in-Ok.ensures

pub returns-in-Err : goal.returns-in-Err
returns-in-Err g c = λ lines.
    let read = c.in_ok-read_line.ensures in
    unheard_register lines (length c.args.bytes.now) (g.R.Read.remaining c.args.reader.now) (g.R.Read.remaining c.read_line.new.reader)
    (g.R.Read.remaining c.read_digits.new.reader) c.read_line.new.line.text.items c.in-Err.fault read.0
    (sym c.words.ensures ∙ c.in-Some-Ok.ensures ∙ ap data_end_text c.in-Some-Ok.field-0-is) read.1 c.in-Err.ensures

pub returns-in-Some-Cut : goal.returns-in-Some-Cut
returns-in-Some-Cut g c = λ lines.
    let read = c.in_ok-read_line.ensures in
    heard_one (DataInRegister lines (length c.args.bytes.now)) (RegisterIn Cut c.args.bytes.now) _ _ c.read_line.new.line.text.items read.0 read.1
    (sym c.words.ensures ∙ c.in-Some-Cut.ensures ∙ ap data_end_text c.in-Some-Cut.field-0-is, refl)

pub returns-in-None : goal.returns-in-None
returns-in-None g c = λ lines.
    let read = c.in_ok-read_line.ensures in
    refused (DataInRegister lines (length c.args.bytes.now)) (g.R.Read.remaining c.args.reader.now)
    (g.R.Read.remaining c.read_line.new.reader) c.read_line.new.line.text.items read.0 read.1
    (no_register lines (length c.args.bytes.now) (trimmed c.read_line.new.line.text.items)
    (λ end told. c.in-None.ensures end (c.words.ensures ∙ told)))
