-- What the device identification register (CID) of an e.MMC device says, by its bits 127..8.
-- JESD84-B51, section 7.2 (CID register).
use Rattle.std.specs.Prelude.{ℕ}
use Rattle.sdv_frames.specs.Bits.{Bits, range}
use Rattle.sdv_registers.specs.Field.{field}

-- MID, the manufacturer
abbrev pub mid : Bits → ℕ
mid cid = field 127 127 120 cid

-- CBX, whether the device is removable, in a ball grid array, or on a package
abbrev pub cbx : Bits → ℕ
cbx cid = field 127 113 112 cid

-- OID, the OEM or the application
abbrev pub oid : Bits → ℕ
oid cid = field 127 111 104 cid

-- PNM, the six characters of the product's name
abbrev pub pnm : Bits → Bits
pnm cid = range 127 103 56 cid

-- PRV, the product's revision
abbrev pub prv : Bits → ℕ
prv cid = field 127 55 48 cid

-- PSN, the product's serial number
abbrev pub psn : Bits → ℕ
psn cid = field 127 47 16 cid

-- MDT, the manufacturing date, whose coding depends on EXT_CSD_REV
abbrev pub mdt : Bits → ℕ
mdt cid = field 127 15 8 cid
