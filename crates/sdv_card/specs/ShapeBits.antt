-- What the bits of a shape say by themselves: the unit of addresses, the partition in access, the host's data lines, and
-- the script's flags.
use Rattle.std.specs.Prelude.{ℕ, ◌+◌, ◌-◌, ◌*◌, ◌/◌, ◌%◌, ◌^◌, ◌==◌, Bool, true, false}
use Rattle.sdv_card.specs.declared.shape.Shape.{Shape}
use Rattle.sdv_card.specs.declared.state.Width.{Width}
use Rattle.sdv_card.specs.declared.state.Partition.{Partition}
use Rattle.sdv_card.specs.Modes.{width_number}
use Rattle.sdv_card.specs.Code.{digits}

-- the shape is that of a card with block addresses
abbrev pub has_block_addresses : Shape → Bool
has_block_addresses s = (digits s.0).block_unit

-- the partition in access at the card of the shape
abbrev pub partition_shown : Shape → Partition
partition_shown s = (digits s.0).mode.partition

-- the data lines of the host of the shape
abbrev pub lines_shown : Shape → Width
lines_shown s = (digits s.0).lines

-- the shape with other data lines of the host: they are bits 23..22
abbrev pub with_lines_shown : Shape → Width → Shape
with_lines_shown s lines =
    record { 0 = s.0 - 2 ^ 22 * width_number (lines_shown s) + 2 ^ 22 * width_number lines }

-- the flag in this place, from 0, is set in the bits of these flags
abbrev pub is_flag_set : (flags flag : ℕ) → Bool
is_flag_set flags flag = flags / 2 ^ flag % 2 == 1

-- the shape has the flag in this place set
abbrev pub has_flag : Shape → ℕ → Bool
has_flag s flag = is_flag_set (digits s.0).flags flag

-- a bit of the flags is put from one value to another
abbrev pub put_bit : (before after : Bool) → (flags bit : ℕ) → ℕ
put_bit true true flags bit = flags
put_bit true false flags bit = flags - bit
put_bit false true flags bit = flags + bit
put_bit false false flags bit = flags

-- the shape with the flag in this place, from 0, set or clear: the flags are bits 19..16
abbrev pub with_flag_shown : Shape → ℕ → Bool → Shape
with_flag_shown s flag on = record { 0 = put_bit (has_flag s flag) on s.0 (2 ^ (16 + flag)) }
