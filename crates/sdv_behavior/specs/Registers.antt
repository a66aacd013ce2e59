-- The registers of a card that is described: the CSD has the fields that tell the capacity, and all else is 0; the
-- EXT_CSD tells the sizes of a device and what CMD6 set; the others are the same for all cards of a kind. SD Physical
-- Layer Simplified Specification, sections 5.2 (CID), 5.3 (CSD), 5.6 (SCR) and 4.10.2 (SD status); JESD84-B51, sections
-- 7.2 (CID), 7.3 (CSD) and 7.4 (extended CSD). What they hold is this project's own.
use Rattle.std.specs.Prelude.{ℕ, ◌+◌, ◌-◌, ◌*◌, ◌/◌, ◌%◌, ◌^◌, List, [], ◌∷◌, ◌++◌, replicate}
use Rattle.sdv_registers.specs.declared.kind.Kind.{Kind}
use Rattle.sdv_registers.specs.declared.kind.Kind.TheVariants.{Sd, Emmc}
use Rattle.sdv_card.specs.declared.state.Mode.{Mode}
use Rattle.sdv_card.specs.Modes.{width_number, partition_number}
use Rattle.sdv_behavior.specs.declared.description.Size.{Size}

-- CSD: bits 127..8, the highest byte first

-- version 1, and e.MMC: READ_BL_LEN [83:80], C_SIZE [73:62], C_SIZE_MULT [49:47]
abbrev pub byte_csd : Size → List ℕ
byte_csd size =
    0 ∷ 0 ∷ 0 ∷ 0 ∷ 0 ∷ size.read_bl_len ∷ size.c_size / 1024 ∷ size.c_size / 4 % 256 ∷ size.c_size % 4 * 64
    ∷ size.c_size_mult / 2 ∷ size.c_size_mult % 2 * 128 ∷ 0 ∷ 0 ∷ 0 ∷ 0 ∷ []

-- version 2: CSD_STRUCTURE 1 [127:126], READ_BL_LEN 9 [83:80], C_SIZE [69:48]
abbrev pub block_csd : (c_size : ℕ) → List ℕ
block_csd c_size =
    0x40 ∷ 0 ∷ 0 ∷ 0 ∷ 0 ∷ 9 ∷ 0 ∷ c_size / 65536 ∷ c_size / 256 % 256 ∷ c_size % 256 ∷ 0 ∷ 0 ∷ 0 ∷ 0 ∷ 0 ∷ []

-- the capacity by the formula of version 1, in blocks of 512 bytes
abbrev pub size_blocks : Size → ℕ
size_blocks size = (size.c_size + 1) * 2 ^ (size.c_size_mult + 2) * 2 ^ (size.read_bl_len - 9)

-- bits 127..8 of the CID
abbrev pub cid_of : Kind → List ℕ
cid_of Sd = 0x00 ∷ 0x58 ∷ 0x58 ∷ 0x53 ∷ 0x44 ∷ 0x56 ∷ 0x20 ∷ 0x20 ∷ 0x10 ∷ 0x00 ∷ 0x00 ∷ 0x00 ∷ 0x01 ∷ 0x01 ∷ 0x81 ∷ []
cid_of Emmc =
    0x00 ∷ 0x01 ∷ 0x58 ∷ 0x53 ∷ 0x44 ∷ 0x56 ∷ 0x45 ∷ 0x52 ∷ 0x49 ∷ 0x10 ∷ 0x00 ∷ 0x00 ∷ 0x00 ∷ 0x01 ∷ 0x17 ∷ []

abbrev pub scr : List ℕ
scr = 0x02 ∷ 0x05 ∷ 0x00 ∷ 0x00 ∷ 0x00 ∷ 0x00 ∷ 0x00 ∷ 0x00 ∷ []

unfoldable pub sd_status : List ℕ
sd_status = replicate 64 0

-- The EXT_CSD of a device in a mode: all zeros but the partition in access (byte 179), the width (183), SEC_COUNT (212
-- to 215, its lowest byte first) and BOOT_SIZE_MULT (226).
unfoldable pub ext_csd_of : Mode → (sectors boot_size_mult : ℕ) → List ℕ
ext_csd_of mode sectors boot_size_mult =
    replicate 179 0 ++ partition_number mode.partition
    ∷ (replicate 3 0 ++ width_number mode.width
    ∷ (replicate 28 0 ++ sectors % 256 ∷ sectors / 256 % 256 ∷ sectors / 65536 % 256 ∷ sectors / 16777216
    ∷ (replicate 10 0 ++ boot_size_mult ∷ replicate 285 0)))
