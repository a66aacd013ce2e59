use Rattle.std.proofs.Common.{rules}
use Rattle.sdv_script.proofs.settings.emmc_argument.Goals as goal

pub returns-in-Access-Boot1 : goal.returns-in-Access-Boot1
returns-in-Access-Boot1 c = search rules
