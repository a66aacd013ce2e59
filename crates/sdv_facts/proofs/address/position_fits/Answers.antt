use Rattle.std.proofs.Common.{rules}
use Rattle.sdv_facts.proofs.address.position_fits.Goals as goal

pub returns-in-Number : goal.returns-in-Number
returns-in-Number c = search rules
