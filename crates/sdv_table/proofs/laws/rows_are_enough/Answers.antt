use Rattle.sdv_table.proofs.Enough.{enough}
use Rattle.sdv_table.proofs.laws.rows_are_enough.Goals as goal

pub returns : goal.returns
returns c = λ k ask has. enough k ask has
