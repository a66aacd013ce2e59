use Rattle.sdv_script.proofs.AskLaws.{asks_by_table}
use Rattle.sdv_script.proofs.reading.asks_by_table.Goals as goal

pub returns : goal.returns
returns c = asks_by_table
