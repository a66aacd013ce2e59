use Rattle.std.proofs.Common.{rules}
use Rattle.sdv_emmc.proofs.table.EmmcTableRows.kind.Goals as goal

pub returns : goal.returns
returns c = search rules
