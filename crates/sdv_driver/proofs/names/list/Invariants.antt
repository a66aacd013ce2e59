use Rattle.std.proofs.Common.{◌≡◌, length}
use Rattle.sdv_script.specs.Place.{tokens_at, texts}
use Rattle.sdv_driver.specs.Reading.{read_names}
use Rattle.sdv_driver.proofs.names.list.Given as goal

-- what is read from here on is what is read from the first of these names on
abbrev pub invariant-loop-name : goal.invariant-loop-name
invariant-loop-name l =
    read_names (texts l.earlier) (texts l.names.items) l.limit (tokens_at l.at)
    ≡ read_names (texts l.earlier) (texts l.initial.names.items) l.limit (tokens_at l.initial.at)

abbrev pub decreases-loop-name : goal.decreases-loop-name
decreases-loop-name l = length (tokens_at l.at)
