-- What the operation conditions register (OCR) says, a word of 32 bits.
-- SD Physical Layer Simplified Specification, section 5.1 (OCR register); JESD84-B51, section 7.1
-- (OCR register).
use Rattle.std.specs.Prelude.{ℕ, Bool, ◌==◌}
use Rattle.sdv_frames.specs.Bits.{bits}
use Rattle.sdv_registers.specs.Field.{field, is_set}
use Rattle.sdv_registers.specs.declared.kind.Kind.{Kind}
use Rattle.sdv_registers.specs.declared.kind.Kind.TheVariants.{Sd, Emmc}

-- the power-up status: the card has finished its power-up
abbrev pub is_powered_up : ℕ → Bool
is_powered_up ocr = is_set 31 31 (bits 32 ocr)

-- the card capacity status of an SD card, valid once it is powered up: it is addressed by blocks
abbrev pub ccs : ℕ → Bool
ccs ocr = is_set 31 30 (bits 32 ocr)

-- the access mode of an e.MMC device: 0 is by bytes, 2 by sectors
abbrev pub access_mode : ℕ → ℕ
access_mode ocr = field 31 30 29 (bits 32 ocr)

-- the card is addressed by blocks and not by bytes, as its kind tells it
abbrev pub is_block_addressed : Kind → ℕ → Bool
is_block_addressed Sd ocr = ccs ocr
is_block_addressed Emmc ocr = access_mode ocr == 2

-- the nine windows of the supply voltage from 2.7 V (bit 15) to 3.6 V (bit 23), 0.1 V each
abbrev pub voltage_windows : ℕ → ℕ
voltage_windows ocr = field 31 23 15 (bits 32 ocr)

-- an e.MMC device takes 1.70 V to 1.95 V
abbrev pub has_low_voltage : ℕ → Bool
has_low_voltage ocr = is_set 31 7 (bits 32 ocr)
