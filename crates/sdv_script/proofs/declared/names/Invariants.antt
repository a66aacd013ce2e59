use Rattle.std.proofs.Common.{◌≡◌, [], length}
use Rattle.sdv_script.specs.Place.{tokens_at, texts}
use Rattle.sdv_script.specs.Reading.{read_names}
use Rattle.sdv_script.proofs.declared.names.Given as goal

abbrev pub invariant-loop-at : goal.invariant-loop-at
invariant-loop-at l =
    read_names l.with_nums (texts l.earlier) (texts l.names.items) l.limit (tokens_at l.at)
    ≡ read_names l.with_nums (texts l.earlier) [] l.limit (tokens_at l.initial.at)

abbrev pub decreases-loop-at : goal.decreases-loop-at
decreases-loop-at l = length (tokens_at l.at)
