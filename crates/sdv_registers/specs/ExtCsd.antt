-- What the extended CSD register (EXT_CSD) of an e.MMC device says, by its 512 bytes, in their order.
-- JESD84-B51, section 7.4 (extended CSD register).
use Rattle.std.specs.Prelude.{ℕ, ◌+◌, ◌-◌, ◌*◌, List, take, drop, reverse}
use Rattle.sdv_frames.specs.Bits.{bits, bits_of, number_of}
use Rattle.sdv_registers.specs.Field.{field}

-- the bytes from low to high as one number, the lowest byte first: [high:low]
abbrev pub bytes : ℕ → ℕ → List ℕ → ℕ
bytes high low register = number_of (bits_of (reverse (take (high + 1 - low) (drop low register))))

-- PARTITION_CONFIG, and its bits 2..0, the partition that is accessed
abbrev pub partition_config : List ℕ → ℕ
partition_config register = bytes 179 179 register

abbrev pub partition_access : List ℕ → ℕ
partition_access register = field 7 2 0 (bits 8 (partition_config register))

-- BUS_WIDTH
abbrev pub bus_width : List ℕ → ℕ
bus_width register = bytes 183 183 register

-- EXT_CSD_REV
abbrev pub ext_csd_rev : List ℕ → ℕ
ext_csd_rev register = bytes 192 192 register

-- SEC_COUNT, the capacity in sectors of 512 bytes
abbrev pub sec_count : List ℕ → ℕ
sec_count register = bytes 215 212 register

-- BOOT_SIZE_MULT, the size of a boot partition in units of 128 KiB
abbrev pub boot_size_mult : List ℕ → ℕ
boot_size_mult register = bytes 226 226 register

-- the capacity of a boot partition in blocks of 512 bytes
abbrev pub boot_blocks : List ℕ → ℕ
boot_blocks register = 256 * boot_size_mult register
