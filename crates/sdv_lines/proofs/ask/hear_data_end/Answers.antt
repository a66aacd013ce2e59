use Rattle.std.proofs.Common.{◌∙◌, rules, sym}
use Rattle.sdv_card.specs.Port.{DataOut}
use Rattle.sdv_card.specs.ScriptEvent.{BlocksOut}
use Rattle.sdv_lines.specs.Texts.{trimmed}
use Rattle.sdv_lines.proofs.HeardLaws.{unread, heard_one, refused, no_end}
use Rattle.sdv_lines.proofs.ask.hear_data_end.Goals as goal

pub returns-in_err-read_line : goal.returns-in_err-read_line
returns-in_err-read_line g c = λ lines blocks.
    let none = unread (DataOut lines blocks) (g.R.Read.remaining c.args.reader.now) (g.R.Read.remaining c.read_line.new.reader)
    c.in_err-read_line.field-0.0 c.in_err-read_line.ensures.0 in
    search rules

pub returns-in-Some : goal.returns-in-Some
returns-in-Some g c = λ lines blocks.
    let read = c.in_ok-read_line.ensures in
    heard_one (DataOut lines blocks) (BlocksOut c.in-Some.end) _ _ c.read_line.new.line.text.items read.0 read.1
    (sym c.words.ensures ∙ c.in-Some.ensures)

pub returns-in-None : goal.returns-in-None
returns-in-None g c = λ lines blocks.
    let read = c.in_ok-read_line.ensures in
    refused (DataOut lines blocks) (g.R.Read.remaining c.args.reader.now) (g.R.Read.remaining c.read_line.new.reader)
    c.read_line.new.line.text.items read.0 read.1
    (no_end lines blocks (trimmed c.read_line.new.line.text.items) (λ end told. c.in-None.ensures end (c.words.ensures ∙ told)))
