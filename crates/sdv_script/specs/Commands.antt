-- What a script writes after the index of a command.
-- SD Physical Layer Simplified Specification, section 4.7.4 (detailed command description); JESD84-B51, section 6.10.4.
use Rattle.std.specs.Prelude.{ℕ, List, [], ◌∷◌, find, Bool, true, false, ◌||◌, ◌==◌, Option, Some, None, is_some, if◌then◌else◌}
use Rattle.sdv_registers.specs.declared.kind.Kind.{Kind}
use Rattle.sdv_registers.specs.declared.kind.Kind.TheVariants.{Sd, Emmc}
use Rattle.sdv_card.specs.declared.event.Aim.TheVariants.{Rca, Plain}
use Rattle.sdv_card.specs.declared.state.Width.{Width}
use Rattle.sdv_card.specs.declared.state.Width.TheVariants.{One, Four, Eight}
use Rattle.sdv_card.specs.declared.state.Partition.{Partition}
use Rattle.sdv_card.specs.declared.state.Partition.TheVariants.{User, Boot1, Boot2}
use Rattle.sdv_card.specs.declared.command.Setting.{Setting}
use Rattle.sdv_card.specs.declared.command.Setting.TheVariants.{Lines, Access}
use Rattle.sdv_script.specs.declared.operand.Operand.{Operand}
use Rattle.sdv_script.specs.declared.operand.Operand.TheVariants.{Bare, Select, Conditions, Addressed, Counted, Preset, Erase, Switch}
pub use Rattle.sdv_graph.specs.GuardSuits.{fits_order}

abbrev pub either : Bool → Operand → Option Operand → Option Operand
either is operand others = if is then Some operand else others

-- by the index; none where the kind has no such command
abbrev pub sd_operand : ℕ → Option Operand
sd_operand n =
    either ((n == 0) || (n == 2) || (n == 3) || (n == 8) || (n == 12) || (n == 16) || (n == 38) || (n == 51))
    (Bare Plain) (
    either ((n == 9) || (n == 10) || (n == 13) || (n == 55)) (Bare Rca) (
    either (n == 6) Switch (
    either (n == 7) Select (
    either (n == 41) Conditions (
    either ((n == 17) || (n == 24)) (Addressed 1) (
    either ((n == 32) || (n == 33)) (Addressed 0) (
    either ((n == 18) || (n == 25)) Counted None)))))))

abbrev pub emmc_operand : ℕ → Option Operand
emmc_operand n =
    either ((n == 0) || (n == 1) || (n == 2) || (n == 3) || (n == 8) || (n == 12) || (n == 16)) (Bare Plain) (
    either ((n == 9) || (n == 10) || (n == 13)) (Bare Rca) (
    either (n == 6) Switch (
    either (n == 7) Select (
    either (n == 23) Preset (
    either (n == 38) Erase (
    either ((n == 17) || (n == 24)) (Addressed 1) (
    either ((n == 35) || (n == 36)) (Addressed 0) (
    either ((n == 18) || (n == 25)) Counted None))))))))

abbrev pub operand_of : Kind → ℕ → Option Operand
operand_of Sd n = sd_operand n
operand_of Emmc n = emmc_operand n

-- the two arguments of ACMD41: with high capacity, and without
abbrev pub is_conditions : ℕ → Bool
is_conditions n = (n == 0x00ff8000) || (n == 0x40ff8000)

-- the arguments of CMD38 of e.MMC: erase, trim and discard
abbrev pub is_erase : ℕ → Bool
is_erase n = (n == 0) || (n == 1) || (n == 3)

-- e.MMC alone has an EXT_CSD
abbrev pub has_ext_csd : Kind → Bool
has_ext_csd Sd = false
has_ext_csd Emmc = true

-- WHAT INDEX 6 SETS: ACMD6 of SD, and CMD6 of e.MMC, which writes a byte of the EXT_CSD (JESD84-B51, sections 6.6.1 and
-- 7.4: BUS_WIDTH and PARTITION_CONFIG)

-- an SD card has no partition beside the user area
abbrev pub has_partitions : Kind → Bool
has_partitions Sd = false
has_partitions Emmc = true

-- what a kind of card can be told to use
abbrev pub settings : Kind → List Setting
settings Sd = Lines One ∷ Lines Four ∷ []
settings Emmc = Lines One ∷ Lines Four ∷ Lines Eight ∷ Access User ∷ Access Boot1 ∷ Access Boot2 ∷ []

-- the argument of ACMD6: one data line, or four
abbrev pub sd_argument : Setting → ℕ
sd_argument (Lines One) = 0
sd_argument setting = 2

-- the argument of CMD6: the access mode, which is 3, the byte's index and its value
abbrev pub emmc_argument : Setting → ℕ
emmc_argument (Lines One) = 0x03b70000
emmc_argument (Lines Four) = 0x03b70100
emmc_argument (Lines Eight) = 0x03b70200
emmc_argument (Access User) = 0x03b30000
emmc_argument (Access Boot1) = 0x03b30100
emmc_argument (Access Boot2) = 0x03b30200

-- the argument that sets it
abbrev pub setting_argument : Kind → Setting → ℕ
setting_argument Sd setting = sd_argument setting
setting_argument Emmc setting = emmc_argument setting

-- what an argument sets; none where the kind has no such setting
abbrev pub setting_of : Kind → (argument : ℕ) → Option Setting
setting_of k argument = find (λ setting. argument == setting_argument k setting) (settings k)

abbrev pub is_setting : Kind → (argument : ℕ) → Bool
is_setting k argument = is_some (setting_of k argument)

-- so many data lines
abbrev pub width_with : (lines : ℕ) → Option Width
width_with lines =
    if lines == 1 then Some One else (if lines == 4 then Some Four else (if lines == 8 then Some Eight else None))

-- the partition that has this number in PARTITION_CONFIG
abbrev pub partition_with : ℕ → Option Partition
partition_with n = if n == 0 then Some User else (if n == 1 then Some Boot1 else (if n == 2 then Some Boot2 else None))
