-- What the card-specific data register (CSD) says, which registers are read, and the capacity.
-- SD Physical Layer Simplified Specification, section 5.3 (CSD register, versions 1.0 and 2.0);
-- JESD84-B51, section 7.3 (CSD register).
-- The register is given by its bits 127..8: those below are the CRC7 of these and the end bit.
use Rattle.std.specs.Prelude.{ℕ, ◌+◌, ◌-◌, ◌*◌, ◌^◌, Bool, false, ◌==◌, ◌||◌, nat_lt, if◌then◌else◌, Option, Some, None}
use Rattle.sdv_frames.specs.Bits.{Bits}
use Rattle.sdv_registers.specs.Field.{field}
use Rattle.sdv_registers.specs.declared.kind.Kind.{Kind}
use Rattle.sdv_registers.specs.declared.kind.Kind.TheVariants.{Sd, Emmc}
use Rattle.sdv_registers.specs.declared.fault.RegisterFault.{RegisterFault}
use Rattle.sdv_registers.specs.declared.fault.RegisterFault.TheVariants.{Structure, BlockLength}
use Rattle.sdv_registers.specs.declared.csd.CsdLayout.{CsdLayout}
use Rattle.sdv_registers.specs.declared.csd.CsdLayout.TheVariants.{Version1, Version2}

-- CSD_STRUCTURE and READ_BL_LEN, in both layouts
abbrev pub csd_structure : Bits → ℕ
csd_structure csd = field 127 127 126 csd

abbrev pub read_bl_len : Bits → ℕ
read_bl_len csd = field 127 83 80 csd

-- C_SIZE, by the layout
abbrev pub c_size : CsdLayout → Bits → ℕ
c_size Version1 csd = field 127 73 62 csd
c_size Version2 csd = field 127 69 48 csd

-- C_SIZE_MULT, which stands in version 1 alone
abbrev pub c_size_mult : Bits → ℕ
c_size_mult csd = field 127 49 47 csd

abbrev pub c_size_mult_of : CsdLayout → Bits → Option ℕ
c_size_mult_of Version1 csd = Some (c_size_mult csd)
c_size_mult_of Version2 csd = None

-- the layout of a register that is read: every e.MMC device has that of version 1
abbrev pub layout : Kind → Bits → CsdLayout
layout Sd csd = if csd_structure csd == 1 then Version2 else Version1
layout Emmc csd = Version1

-- the structure is one that the standard does not know; on e.MMC it is not tested
abbrev pub has_unknown_structure : Kind → Bits → Bool
has_unknown_structure Sd csd = nat_lt 1 (csd_structure csd)
has_unknown_structure Emmc csd = false

-- READ_BL_LEN is no block length of 512, 1,024 or 2,048 bytes; in version 2 it is not tested, as the
-- capacity does not depend on it
abbrev pub has_other_block_length : CsdLayout → Bits → Bool
has_other_block_length Version1 csd = nat_lt (read_bl_len csd) 9 || nat_lt 11 (read_bl_len csd)
has_other_block_length Version2 csd = false

-- why a register is not read; none for one that is
abbrev pub fault : Kind → Bits → Option RegisterFault
fault kind csd =
    if has_unknown_structure kind csd then Some Structure
    else if has_other_block_length (layout kind csd) csd then Some BlockLength
    else None

-- the capacity in blocks of 512 bytes, by the layout
abbrev pub blocks_of : CsdLayout → Bits → ℕ
blocks_of Version1 csd =
    (c_size Version1 csd + 1) * 2 ^ (c_size_mult csd + 2) * 2 ^ (read_bl_len csd - 9)
blocks_of Version2 csd = (c_size Version2 csd + 1) * 1024

-- the capacity that a register which is read gives
abbrev pub blocks : Kind → Bits → ℕ
blocks kind csd = blocks_of (layout kind csd) csd
