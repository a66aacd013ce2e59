use Rattle.std.proofs.Common.{rules}
use Rattle.sdv_behavior.proofs.accepts.has_blocks.Goals as goal

pub returns-then-argument-eq0 : goal.returns-then-argument-eq0
returns-then-argument-eq0 c = search rules
