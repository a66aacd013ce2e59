use Rattle.std.proofs.Common.{◌≡◌, ◌-◌, ◌≤◌, ℕ, Option, length}
use Rattle.sdv_check.specs.Reading.{begins_number, read_number, read_turns}
use Rattle.sdv_check.proofs.Lists.{left}
use Rattle.sdv_check.proofs.text.points.turns.Given as goal

-- what is read and what is left are all
abbrev pub invariant-loop-at : goal.invariant-loop-at
invariant-loop-at l =
    (length l.turns.items ≤ 4) × ((last : Option ℕ) × (left begins_number (λ last. read_number) 4 l.turns.items last l.at.rest.now
    ≡ read_turns l.fn.at.rest.now))

abbrev pub decreases-loop-at : goal.decreases-loop-at
decreases-loop-at l = 4 - length l.turns.items
