use Rattle.sdv_script.proofs.PrintedLaws.{printed_script, printed_again}
use Rattle.sdv_script.proofs.printing.printed_tree.Goals as goal

pub returns-clause-script : goal.returns-clause-script
returns-clause-script c = printed_script

pub returns-clause-again : goal.returns-clause-again
returns-clause-again c = printed_again
