use Rattle.sdv_script.proofs.ScriptLaws.{one_tree_lem}
use Rattle.sdv_script.proofs.reading.one_tree.Goals as goal

pub returns : goal.returns
returns c = one_tree_lem
