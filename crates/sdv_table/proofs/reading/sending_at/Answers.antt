use Rattle.std.proofs.Common.{sym, subst}
use Rattle.sdv_table.specs.Loading.{IsSentRight}
use Rattle.sdv_table.proofs.Places.{sending_there}
use Rattle.sdv_table.proofs.reading.sending_at.Goals as goal

pub returns-clause-table : goal.returns-clause-table
returns-clause-table c = λ g most table p there.
    subst (λ s. IsSentRight g.kind p.action s) (sym c.read_sending.ensures)
    (sending_there g c.args.words.now c.args.number p table there)
