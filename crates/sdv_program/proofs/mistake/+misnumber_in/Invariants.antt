use Rattle.std.proofs.Common.{length}
use Rattle.sdv_program.proofs.mistake.+misnumber_in.Given as goal

abbrev pub decreases-misnumber_in : goal.decreases-misnumber_in
decreases-misnumber_in l = length l.requests.now
