use Rattle.std.proofs.Common.{rules}
use Rattle.sdv_behavior.proofs.phases.cuts.Goals as goal

pub returns-in-Cut : goal.returns-in-Cut
returns-in-Cut c = search rules
