use Rattle.sdv_audit.proofs.Living as proof
use Rattle.sdv_audit.proofs.laws.reckless_is_real.Goals as goal

pub returns : goal.returns
returns c = proof.reckless_is_real
