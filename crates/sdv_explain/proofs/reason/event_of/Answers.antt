use Rattle.std.proofs.Common.{rules}
use Rattle.sdv_explain.proofs.reason.event_of.Goals as goal

pub returns-in-Phase : goal.returns-in-Phase
returns-in-Phase c = search rules
