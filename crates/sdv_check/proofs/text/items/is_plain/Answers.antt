use Rattle.std.proofs.Common.{rules}
use Rattle.sdv_check.proofs.text.items.is_plain.Goals as goal

pub returns-else-digits-ne48 : goal.returns-else-digits-ne48
returns-else-digits-ne48 c = search rules
