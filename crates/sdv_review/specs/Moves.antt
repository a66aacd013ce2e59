-- WHICH COMMANDS CHANGE THE PARTITION IN ACCESS: CMD0, after which it is the user area, and CMD6 with `part.access`.
-- JESD84-B51, sections 6.2 and 7.4.69.
use Rattle.std.specs.Prelude.{ℕ, Bool, ◌==◌, ◌||◌, if◌then◌else◌}
use Rattle.sdv_card.specs.declared.event.Ask.{Ask}
use Rattle.sdv_card.specs.declared.state.Partition.{Partition}
use Rattle.sdv_card.specs.declared.state.Partition.TheVariants.{User, Boot1, Boot2}
use Rattle.sdv_review.specs.Findings.{writes_config}

abbrev pub moves : Ask → Bool
moves ask = (ask.index == 0) || writes_config ask

-- the partition that the argument of CMD6 names
abbrev pub named_by : (argument : ℕ) → Partition
named_by argument = if argument == 0x03b30100 then Boot1 else (if argument == 0x03b30200 then Boot2 else User)

-- the partition that such a command asks for
abbrev pub partition_by : Ask → Partition
partition_by ask = if ask.index == 0 then User else named_by ask.argument

-- the partition that was asked for last, after a command
abbrev pub asked_by : Ask → Partition → Partition
asked_by ask before = if moves ask then partition_by ask else before
