-- What the SD configuration register (SCR) says, by its 64 bits.
-- SD Physical Layer Simplified Specification, section 5.6 (SCR register).
use Rattle.std.specs.Prelude.{ℕ, Bool}
use Rattle.sdv_frames.specs.Bits.{Bits}
use Rattle.sdv_registers.specs.Field.{field, is_set}

-- SCR_STRUCTURE
abbrev pub scr_structure : Bits → ℕ
scr_structure scr = field 63 63 60 scr

-- SD_SPEC, the version of the standard
abbrev pub sd_spec : Bits → ℕ
sd_spec scr = field 63 59 56 scr

-- DATA_STAT_AFTER_ERASE, what an erased bit is
abbrev pub data_stat_after_erase : Bits → Bool
data_stat_after_erase scr = is_set 63 55 scr

-- SD_BUS_WIDTHS: the card has a bus of one line (bit 48), of four lines (bit 50)
abbrev pub sd_bus_widths : Bits → ℕ
sd_bus_widths scr = field 63 51 48 scr

abbrev pub has_one_line : Bits → Bool
has_one_line scr = is_set 63 48 scr

abbrev pub has_four_lines : Bits → Bool
has_four_lines scr = is_set 63 50 scr
