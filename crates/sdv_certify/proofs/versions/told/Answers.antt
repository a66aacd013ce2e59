use Rattle.std.proofs.Common.{rules}
use Rattle.sdv_certify.proofs.versions.told.Goals as goal

pub returns-in-One : goal.returns-in-One
returns-in-One c = search rules
