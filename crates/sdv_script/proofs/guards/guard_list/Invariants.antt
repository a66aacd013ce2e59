use Rattle.std.proofs.Common.{◌≡◌, [], length}
use Rattle.sdv_script.specs.Place.{tokens_at}
use Rattle.sdv_script.specs.Reading.{read_guards}
use Rattle.sdv_script.proofs.guards.guard_list.Given as goal

abbrev pub invariant-loop-guards : goal.invariant-loop-guards
invariant-loop-guards l = read_guards l.order l.guards.items (tokens_at l.at) ≡ read_guards l.order [] (tokens_at l.initial.at)

abbrev pub decreases-loop-guards : goal.decreases-loop-guards
decreases-loop-guards l = length (tokens_at l.at)
