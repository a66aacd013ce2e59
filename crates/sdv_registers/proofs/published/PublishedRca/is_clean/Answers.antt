use Rattle.std.proofs.Common.{rules}
use Rattle.sdv_registers.proofs.published.PublishedRca.is_clean.Goals as goal

pub returns : goal.returns
returns c = search rules
