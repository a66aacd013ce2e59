-- The mode of a card: the data lines that it uses, the partition in access, and whether a switch error is pending.
-- SD Physical Layer Simplified Specification, sections 4.3.9 and 4.7.4 (ACMD6); JESD84-B51, sections 6.2, 6.6.1, 6.13
-- and 7.4 (PARTITION_CONFIG, BUS_WIDTH). When a pending error ends is this project's profile.
use Rattle.std.specs.Prelude.{◌==◌, ◌&&◌, Bool, true, false, not, ℕ, List, [], ◌∷◌, if◌then◌else◌}
use Rattle.sdv_registers.specs.declared.kind.Kind.{Kind}
use Rattle.sdv_registers.specs.declared.kind.Kind.TheVariants.{Sd, Emmc}
use Rattle.sdv_card.specs.declared.state.State.{State}
use Rattle.sdv_card.specs.declared.state.State.TheVariants.{Tran}
use Rattle.sdv_card.specs.declared.state.Width.{Width}
use Rattle.sdv_card.specs.declared.state.Width.TheVariants.{One, Four, Eight}
use Rattle.sdv_card.specs.declared.state.Partition.{Partition}
use Rattle.sdv_card.specs.declared.state.Partition.TheVariants.{User, Boot1, Boot2}
use Rattle.sdv_card.specs.declared.state.Mode.{Mode}
use Rattle.sdv_card.specs.declared.command.Setting.{Setting}
use Rattle.sdv_card.specs.declared.command.Setting.TheVariants.{Lines, Access}

-- WIDTHS

-- the number in a shape
abbrev pub width_number : Width → ℕ
width_number One = 0
width_number Four = 1
width_number Eight = 2

-- how many data lines these are
abbrev pub line_count : Width → ℕ
line_count One = 1
line_count Four = 4
line_count Eight = 8

-- the host and the card use the same data lines
abbrev pub same_width : Width → Width → Bool
same_width a b = width_number a == width_number b

-- eight lines are those of e.MMC alone
abbrev pub has_width : Kind → Width → Bool
has_width Sd Eight = false
has_width k width = true

-- PARTITIONS

-- the number in a shape
abbrev pub partition_number : Partition → ℕ
partition_number User = 0
partition_number Boot1 = 1
partition_number Boot2 = 2

-- a device whose boot partitions have no blocks gives no access to them
abbrev pub has_partition : Partition → (boot_capacity : ℕ) → Bool
has_partition User boot_capacity = true
has_partition partition boot_capacity = not (boot_capacity == 0)

-- MODES

-- an SD card has no boot partitions and no switch error
abbrev pub mode_fits : Kind → Mode → Bool
mode_fits Sd mode = has_width Sd mode.width && (partition_number mode.partition == 0) && not mode.error
mode_fits Emmc mode = true

-- before the first command, and after CMD0
abbrev pub first_mode : Mode
first_mode = record { width = One; partition = User; error = false }

-- without a pending switch error
abbrev pub calm : Mode → Mode
calm mode = record mode { error = false }

-- with a pending switch error
abbrev pub failed : Mode → Mode
failed mode = record mode { error = true }

-- with a value set
abbrev pub set : Setting → Mode → Mode
set (Lines width) mode = record mode { width = width }
set (Access partition) mode = record mode { partition = partition }

-- a status that was heard in another state than transfer state may leave a switch error pending; in transfer state it
-- shows it, and one that was lost ends it
abbrev pub may_stay_pending : (heard : Bool) → State → Mode → Bool
may_stay_pending true Tran mode = false
may_stay_pending true state mode = mode.error
may_stay_pending false state mode = false

-- after a status: without a switch error, or as it was
abbrev pub mode_told : (heard : Bool) → State → Mode → List Mode
mode_told heard from mode = calm mode ∷ (if may_stay_pending heard from mode then mode ∷ [] else [])
