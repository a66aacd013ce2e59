use Rattle.std.proofs.Common.{◌≡◌, drop}
use Rattle.sdv_review.specs.Names.{is_read}
use Rattle.sdv_review.proofs.names.is_read.Given as goal

abbrev pub invariant-loop-number : goal.invariant-loop-number
invariant-loop-number l = is_read l.name (drop l.number l.graph.points) ≡ is_read l.name l.graph.points
