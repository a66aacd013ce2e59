use Rattle.std.proofs.Common.{rules}
use Rattle.sdv_registers.proofs.emmc_cid.EmmcCid.pnm.Goals as goal

pub returns : goal.returns
returns c = search rules
