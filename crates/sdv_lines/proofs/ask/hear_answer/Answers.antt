use Rattle.std.proofs.Common.{rules, subst}
use Rattle.sdv_card.specs.Port.{Exchange}
use Rattle.sdv_card.specs.ScriptEvent.{Answered}
use Rattle.sdv_lines.specs.Answers.{TellsAnswer}
use Rattle.sdv_lines.specs.Texts.{trimmed}
use Rattle.sdv_lines.proofs.HeardLaws.{unread, heard_one, refused, no_answer}
use Rattle.sdv_lines.proofs.ask.hear_answer.Goals as goal

pub returns-in_err-read_line : goal.returns-in_err-read_line
returns-in_err-read_line g c = λ command.
    let none = unread (Exchange command c.args.expect) (g.R.Read.remaining c.args.reader.now) (g.R.Read.remaining c.read_line.new.reader)
    c.in_err-read_line.field-0.0 c.in_err-read_line.ensures.0 in
    search rules

pub returns-in-Some : goal.returns-in-Some
returns-in-Some g c = λ command.
    let read = c.in_ok-read_line.ensures in
    heard_one (Exchange command c.args.expect) (Answered c.in-Some.answer) _ _ c.read_line.new.line.text.items read.0 read.1
    (subst (λ l. TellsAnswer c.args.expect c.in-Some.answer l) c.words.ensures c.in-Some.ensures)

pub returns-in-None : goal.returns-in-None
returns-in-None g c = λ command.
    let read = c.in_ok-read_line.ensures in
    refused (Exchange command c.args.expect) (g.R.Read.remaining c.args.reader.now) (g.R.Read.remaining c.read_line.new.reader)
    c.read_line.new.line.text.items read.0 read.1
    (no_answer command c.args.expect (trimmed c.read_line.new.line.text.items)
    (λ answer told. c.in-None.ensures answer (rw c.words.ensures told)))
