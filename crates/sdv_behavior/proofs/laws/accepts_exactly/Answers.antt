use Rattle.sdv_behavior.proofs.AcceptLaws.{accepts_exactly}
use Rattle.sdv_behavior.proofs.laws.accepts_exactly.Goals as goal

pub returns : goal.returns
returns c = accepts_exactly
