use Rattle.sdv_block.proofs.BatchLaws.{scripts_of, no_scripts}
use Rattle.sdv_block.proofs.laws.batches_are_scripts.Goals as goal

pub returns : goal.returns
returns c = record { script = scripts_of; none = no_scripts }
