use Rattle.sdv_audit.proofs.TraceLines as proof
use Rattle.sdv_audit.proofs.laws.printed_lines_are_read.Goals as goal

pub returns : goal.returns
returns c = proof.printed_lines_are_read
