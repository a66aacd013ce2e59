use Rattle.sdv_audit.proofs.FindingLaws.{findings_hold}
use Rattle.sdv_audit.proofs.laws.findings_hold.Goals as goal

pub returns : goal.returns
returns c = findings_hold
