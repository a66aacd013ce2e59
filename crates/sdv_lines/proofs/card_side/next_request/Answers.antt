use Rattle.std.proofs.Common.{◌∙◌, ap, sym}
use Rattle.sdv_lines.specs.Hearing.{read_request}
use Rattle.sdv_lines.proofs.ServeLaws.{unknown}
use Rattle.sdv_lines.proofs.card_side.next_request.Goals as goal

pub returns-in-None : goal.returns-in-None
returns-in-None g c = λ room.
    let read = c.in-Ok.ensures in
    unknown room (g.R.Read.remaining c.args.reader.now) (g.R.Read.remaining c.read_line.new.reader) c.read_line.new.line.text.items read.0 read.1
    (ap read_request (sym c.words-2.ensures) ∙ sym c.in-None.ensures.said)
