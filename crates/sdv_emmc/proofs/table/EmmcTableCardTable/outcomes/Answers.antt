use Rattle.std.proofs.Common.{rules}
use Rattle.sdv_emmc.proofs.table.EmmcTableCardTable.outcomes.Goals as goal

pub returns-clause-members : goal.returns-clause-members
returns-clause-members c = search rules
