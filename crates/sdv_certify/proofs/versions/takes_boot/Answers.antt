use Rattle.std.proofs.Common.{rules}
use Rattle.sdv_certify.proofs.versions.takes_boot.Goals as goal

pub returns-in-Send : goal.returns-in-Send
returns-in-Send c = search rules
