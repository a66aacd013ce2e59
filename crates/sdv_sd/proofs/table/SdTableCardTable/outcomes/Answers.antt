use Rattle.std.proofs.Common.{rules}
use Rattle.sdv_sd.proofs.table.SdTableCardTable.outcomes.Goals as goal

pub returns-clause-members : goal.returns-clause-members
returns-clause-members c = search rules
