use Rattle.std.proofs.Common.{◌∙◌}
use Rattle.sdv_table.proofs.Places.{table_read}
use Rattle.sdv_table.proofs.reading.row_at.Goals as goal

pub returns-clause-table : goal.returns-clause-table
returns-clause-table c = λ g most table. c.read_row.ensures ∙ table_read g c.args.words.now c.args.number table
