-- Which address a script's command sends. Positions count blocks, in whatever unit they are sent.
-- SD Physical Layer Simplified Specification, section 4.3.14; JESD84-B51, section 6.6.2.
use Rattle.std.specs.Prelude.{◌+◌, ◌*◌, ℕ, Bool, true, false, nat_le, Option, Some, None, if◌then◌else◌}
use Rattle.sdv_card.specs.Host.{Host}
use Rattle.sdv_card.specs.ShapeBits.{is_flag_set}
use Rattle.sdv_graph.specs.declared.tree.Address.{Address}
use Rattle.sdv_graph.specs.declared.tree.Unit.{Unit as AddressUnit}
use Rattle.sdv_graph.specs.declared.tree.Unit.TheVariants.{Block, Byte, By}
use Rattle.sdv_graph.specs.declared.tree.Position.{Position}
use Rattle.sdv_graph.specs.declared.tree.Position.TheVariants.{Number, Variable}
use Rattle.sdv_graph.specs.Counts.{max_number}
use Rattle.sdv_graph.specs.ValueOfLet.{number}

-- the block
abbrev pub position_of : Host → Position → ℕ
position_of h (Number n) = n
position_of h (Variable x None) = number h x
position_of h (Variable x (Some k)) = number h x + k

-- the number of the block is sent, and not 512 times it
abbrev pub sends_block : Host → AddressUnit → Bool
sends_block h Block = true
sends_block h Byte = false
sends_block h (By flag) = is_flag_set h.flags flag

-- the address of the block at a position, in this unit
abbrev pub address_sent : Host → AddressUnit → (position : ℕ) → ℕ
address_sent h unit position = if sends_block h unit then position else 512 * position

-- the position that goes with a command: none where it is above 2^40, and the run ends in the fault `number`; a command
-- without an address goes with 0
abbrev pub position_of_command : Host → Option Address → Option ℕ
position_of_command h None = Some 0
position_of_command h (Some a) = if nat_le (position_of h a.position) max_number then Some
    (position_of h a.position) else None

-- the address that goes with a command at its position; one without an address goes with 0, which no argument shows
abbrev pub address_of_command : Host → Option Address → (position : ℕ) → ℕ
address_of_command h None position = 0
address_of_command h (Some a) position = address_sent h a.unit position
