-- Whether the condition of an `if` holds at a host, and the host after a flag was set or cleared, or with other data
-- lines.
use Rattle.std.specs.Prelude.{ℕ, ◌^◌, nat_lt, nat_le, Bool}
use Rattle.sdv_card.specs.declared.state.Width.{Width}
use Rattle.sdv_card.specs.Host.{Host}
use Rattle.sdv_card.specs.ShapeBits.{is_flag_set, put_bit}
use Rattle.sdv_graph.specs.declared.tree.Condition.{Condition}
use Rattle.sdv_graph.specs.declared.tree.Condition.TheVariants as conditions
use Rattle.sdv_graph.specs.ValueOfLet.{number}

abbrev pub condition_holds : Host → Condition → Bool
condition_holds h (conditions.Flag flag) = is_flag_set h.flags flag
condition_holds h (conditions.AtLeast x n) = nat_le n (number h x)
condition_holds h (conditions.Below x n) = nat_lt (number h x) n

-- the host after a flag was set or cleared
abbrev pub with_flag : Host → ℕ → Bool → Host
with_flag h flag on = record h { flags = put_bit (is_flag_set h.flags flag) on h.flags (2 ^ flag) }

-- the host with other data lines
abbrev pub with_lines : Host → Width → Host
with_lines h width = record h { lines = width }
