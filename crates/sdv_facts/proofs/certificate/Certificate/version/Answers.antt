use Rattle.std.proofs.Common.{rules}
use Rattle.sdv_facts.proofs.certificate.Certificate.version.Goals as goal

pub returns : goal.returns
returns c = search rules
