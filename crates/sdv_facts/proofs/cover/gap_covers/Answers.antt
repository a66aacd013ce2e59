use Rattle.std.proofs.Common.{rules}
use Rattle.sdv_facts.proofs.cover.gap_covers.Goals as goal

pub returns-in-Some-None : goal.returns-in-Some-None
returns-in-Some-None c = search rules
