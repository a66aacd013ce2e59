use Rattle.std.proofs.Common.{length}
use Rattle.sdv_program.proofs.uses.+is_used.Given as goal

abbrev pub decreases-is_used : goal.decreases-is_used
decreases-is_used g l = length l.roles.now
