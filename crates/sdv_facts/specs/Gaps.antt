-- How the blocks that a card has from a number on change with the number.
-- Bounds are this project's own.
use Rattle.std.specs.Prelude.{◌+◌, ◌-◌, ℕ, nat_le, min, Option, Some, None, if◌then◌else◌}
use Rattle.sdv_graph.specs.Counts.{max_number}

-- the number is greater by k: the blocks are fewer, and with fewer than k nothing is known
abbrev pub gap_less : Option ℕ → ℕ → Option ℕ
gap_less None k = None
gap_less (Some gap) k = if nat_le k gap then Some (gap - k) else None

-- the number is less by k: the blocks are more, and as many as a number of a script can say are kept
abbrev pub gap_more : Option ℕ → ℕ → Option ℕ
gap_more None k = None
gap_more (Some gap) k = Some (min (gap + k) max_number)
