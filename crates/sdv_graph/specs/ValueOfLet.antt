-- What value a script's `let` gives, and the host after it.
-- The capacity by a register is as in SD Physical Layer Simplified Specification, section 5.3, and in JESD84-B51,
-- sections 7.3 and 7.4.
use Rattle.std.specs.Prelude.{◌+◌, ◌-◌, ℕ, slice_index, slice_set, Option, Some, None, option_map, option_and_then, nat_le, if◌then◌else◌}
use Rattle.sdv_frames.specs.Bits.{bits_of}
use Rattle.sdv_registers.specs.declared.kind.Kind.{Kind}
use Rattle.sdv_registers.specs.Csd.{blocks}
use Rattle.sdv_registers.specs.ExtCsd.{sec_count, boot_blocks}
use Rattle.sdv_card.specs.Host.{Host}
use Rattle.sdv_graph.specs.declared.tree.Let.{Let}
use Rattle.sdv_graph.specs.declared.tree.Atom.{Atom}
use Rattle.sdv_graph.specs.declared.tree.Atom.TheVariants.{Number, Variable, CsdBlocks, ExtBlocks, ExtBoot}
use Rattle.sdv_graph.specs.declared.tree.Change.{Change}
use Rattle.sdv_graph.specs.declared.tree.Change.TheVariants.{Same, Plus, Minus}
use Rattle.sdv_graph.specs.Counts.{max_number}

-- the value of the number variable in this place, from 0
abbrev pub number : Host → ℕ → ℕ
number h x = slice_index h.numbers x

-- the host after its variable was set
abbrev pub with_number : Host → ℕ → ℕ → Host
with_number h x n = record h { numbers = slice_set h.numbers x n }

-- a register that was not read gives no value
abbrev pub value_of_atom : Kind → Host → Atom → Option ℕ
value_of_atom k h (Number n) = Some n
value_of_atom k h (Variable y) = Some (number h y)
value_of_atom k h CsdBlocks = option_map (λ bytes. blocks k (bits_of bytes)) h.csd
value_of_atom k h ExtBlocks = option_map sec_count h.ext_csd
value_of_atom k h ExtBoot = option_map boot_blocks h.ext_csd

-- a number of a script
abbrev pub in_range : ℕ → Option ℕ
in_range n = if nat_le n max_number then Some n else None

-- no value is below 0
abbrev pub changed : Change → ℕ → Option ℕ
changed Same n = in_range n
changed (Plus k) n = in_range (n + k)
changed (Minus k) n = if nat_le k n then in_range (n - k) else None

-- the value; with none the run ends in the fault `number`
abbrev pub value_of_let : Kind → Host → Let → Option ℕ
value_of_let k h l = option_and_then (changed l.change) (value_of_atom k h l.atom)
