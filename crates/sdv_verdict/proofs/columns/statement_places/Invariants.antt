use Rattle.std.proofs.Common.{length}
use Rattle.sdv_script.specs.Place.{tokens_at}
use Rattle.sdv_verdict.proofs.columns.statement_places.Given as goal

abbrev pub decreases-loop-counted : goal.decreases-loop-counted
decreases-loop-counted l = length (tokens_at l.at)
