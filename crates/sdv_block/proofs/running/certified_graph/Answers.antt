use Rattle.std.proofs.Common.{sym, subst}
use Rattle.sdv_block.specs.Serves.{Uncertified}
use Rattle.sdv_block.proofs.ServeAnswers.{writer_fault}
use Rattle.sdv_block.proofs.ServeTheorem.{no_fault}
use Rattle.sdv_block.proofs.running.certified_graph.Goals as goal

pub returns-in-Err-certify-clause-refused : goal.returns-in-Err-certify-clause-refused
returns-in-Err-certify-clause-refused c =
    subst (λ f. Uncertified c.args.text.now f) (sym c.fault_of_writer.ensures)
    (writer_fault c.args.text.now c.in-Ok.script c.in-Err-certify.fault c.in-Ok.ensures.text c.in-Ok.ensures.script c.in-Err-certify.ensures.refused)

-- the certificate is closed
pub returns-clause-refused : goal.returns-clause-refused
returns-clause-refused c =
    absurd (no_fault c.in-Ok-graph.graph _ c.in-Err-check.fault
    (c.in-Ok-certify.ensures.closed c.in-Ok-graph.graph c.in-Ok-graph.ensures) c.in-Err-check.ensures.checked)
