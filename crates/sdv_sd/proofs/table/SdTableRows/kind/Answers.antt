use Rattle.std.proofs.Common.{rules}
use Rattle.sdv_sd.proofs.table.SdTableRows.kind.Goals as goal

pub returns : goal.returns
returns c = search rules
