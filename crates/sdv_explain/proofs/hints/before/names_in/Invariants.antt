use Rattle.std.proofs.Common.{length}
use Rattle.sdv_script.specs.Place.{tokens_at}
use Rattle.sdv_explain.proofs.hints.before.names_in.Given as goal

abbrev pub decreases-loop-name : goal.decreases-loop-name
decreases-loop-name l = length (tokens_at l.at)
