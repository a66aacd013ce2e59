-- Which addresses are known to lie in the partition in access, with their blocks, and to be sent in the card's unit.
-- SD Physical Layer Simplified Specification, section 4.7.4; JESD84-B51, section 6.10.4.
use Rattle.std.specs.Prelude.{◌+◌, ℕ, List, Bool, false, ◌&&◌, ◌||◌, nat_le, Option, Some, None}
use mathlib.Core.Bool.{beq}
use Rattle.sdv_card.specs.declared.shape.Shape.{Shape}
use Rattle.sdv_card.specs.declared.state.Partition.{Partition}
use Rattle.sdv_card.specs.Card.{capacity_of}
use Rattle.sdv_card.specs.ShapeBits.{has_block_addresses, partition_shown, has_flag}
use Rattle.sdv_card.specs.Lists.{all}
use Rattle.sdv_graph.specs.declared.tree.Address.{Address}
use Rattle.sdv_graph.specs.declared.tree.Unit.{Unit as AddressUnit}
use Rattle.sdv_graph.specs.declared.tree.Unit.TheVariants.{Block, Byte, By}
use Rattle.sdv_graph.specs.declared.tree.Position.{Position}
use Rattle.sdv_graph.specs.declared.tree.Position.TheVariants.{Number, Variable}
use Rattle.sdv_facts.specs.declared.numbers.Numbers.{Numbers}
use Rattle.sdv_facts.specs.Facts.{Facts, var, gap_in}
use Rattle.sdv_facts.specs.AfterLet.{all_block_unit, all_byte_unit}

-- the unit is that of every shape
abbrev pub unit_fits : List Shape → AddressUnit → Bool
unit_fits shapes Block = all_block_unit shapes
unit_fits shapes Byte = all_byte_unit shapes
unit_fits shapes (By flag) = all (λ s. beq (has_flag s flag) (has_block_addresses s)) shapes

-- from a number with this gap on there are n blocks
abbrev pub gap_allows : Option ℕ → ℕ → Bool
gap_allows None n = false
gap_allows (Some gap) n = nat_le n gap

-- a partition has n blocks from a variable and k on
abbrev pub variable_fits : Partition → Numbers → (x k n : ℕ) → Bool
variable_fits p ns x k n =
    gap_allows (gap_in p (var ns x)) (k + n) || nat_le ((var ns x).hi + k + n) (capacity_of p ns.m ns.mb)

-- it has n blocks from the position on
abbrev pub position_fits : Partition → Numbers → Position → ℕ → Bool
position_fits p ns (Number k) n = nat_le (k + n) (capacity_of p ns.m ns.mb)
position_fits p ns (Variable x None) n = variable_fits p ns x 0 n
position_fits p ns (Variable x (Some k)) n = variable_fits p ns x k n

-- so has the partition in access, at every shape
abbrev pub each_fits : Facts → Position → ℕ → Bool
each_fits known p n = all (λ s. position_fits (partition_shown s) known.numbers p n) known.shapes

-- all of it
abbrev pub address_fits : Facts → Address → ℕ → Bool
address_fits known a n = unit_fits known.shapes a.unit && each_fits known a.position n
