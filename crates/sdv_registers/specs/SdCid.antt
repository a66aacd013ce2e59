-- What the card identification register (CID) of an SD card says, by its bits 127..8.
-- SD Physical Layer Simplified Specification, section 5.2 (CID register).
use Rattle.std.specs.Prelude.{ℕ}
use Rattle.sdv_frames.specs.Bits.{Bits, range}
use Rattle.sdv_registers.specs.Field.{field}

-- MID, the manufacturer
abbrev pub mid : Bits → ℕ
mid cid = field 127 127 120 cid

-- OID, two characters for the OEM or the application
abbrev pub oid : Bits → ℕ
oid cid = field 127 119 104 cid

-- PNM, the five characters of the product's name
abbrev pub pnm : Bits → Bits
pnm cid = range 127 103 64 cid

-- PRV, the product's revision
abbrev pub prv : Bits → ℕ
prv cid = field 127 63 56 cid

-- PSN, the product's serial number
abbrev pub psn : Bits → ℕ
psn cid = field 127 55 24 cid

-- MDT, the manufacturing date: the year from 2000 on, and the month
abbrev pub mdt_year : Bits → ℕ
mdt_year cid = field 127 19 12 cid

abbrev pub mdt_month : Bits → ℕ
mdt_month cid = field 127 11 8 cid
