use Rattle.std.proofs.Common.{◌≡◌, drop}
use Rattle.sdv_review.specs.Names.{first_from, first_setting}
use Rattle.sdv_review.proofs.names.first_setting.Given as goal

abbrev pub invariant-loop-number : goal.invariant-loop-number
invariant-loop-number l = first_from l.name l.number (drop l.number l.graph.points) ≡ first_setting l.name l.graph.points
