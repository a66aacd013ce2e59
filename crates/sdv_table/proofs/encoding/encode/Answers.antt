use Rattle.sdv_table.proofs.WellFormed.{table_is_well_formed}
use Rattle.sdv_table.proofs.encoding.encode.Goals as goal

pub returns-clause-well_formed : goal.returns-clause-well_formed
returns-clause-well_formed c = table_is_well_formed c.args.graph.now c.args.most c.in_ok-words.words.items c.in_ok-words.ensures.table
