-- THE SCHEDULE of `try`: a file of digits, or of mishaps by name.
use Rattle.std.specs.Prelude.{◌≡◌, ◌⊎◌, ℕ, List, [], Bool, true, false, Option, Some, None, Ok, Err, option_map}
use Rattle.std.specs.Borrow.{Bor}
use Rattle.std.specs.List.{list_any}
use Rattle.clap.specs.Words.{Text}
use Rattle.sdv_named_schedules.specs.Naming.{AreNamed}
use Rattle.sdv_named_schedules.specs.Reading.{is_letter, reading}
use Rattle.sdv_named_schedules.specs.declared.fault.ScheduleFault.{ScheduleFault}
use Rattle.sdv_named_schedules.specs.declared.idle.Idle.{Idle}
use Rattle.sdv_named_schedules.specs.declared.naming.NamedMishap.{NamedMishap}
use Rattle.sdv_program.specs.declared.fault.Fault.{Fault}
use Rattle.sdv_program.specs.declared.fault.Fault.TheVariants.{Schedule as Unscheduled}
use Rattle.sdv_program.specs.Files.{Files}
use Rattle.sdv_commands.specs.Run.{IsOptional, schedule_codes}
use Rattle.sdv_commands.specs.declared.schedules.Schedule.{Schedule}
use Rattle.sdv_commands.specs.declared.schedules.Schedule.TheVariants.{Values, Names}

-- BYTES: those with a letter are mishaps by name, and others are digits

abbrev pub is_by_name : (bytes : List ℕ) → Bool
is_by_name bytes = list_any is_letter bytes

abbrev pub IsReadSo : (bytes : List ℕ) → Schedule → Type 0
IsReadSo bytes (Values codes) = (is_by_name bytes ≡ false) × (codes.items ≡ schedule_codes bytes)
IsReadSo bytes (Names mishaps) = (is_by_name bytes ≡ true) × (reading bytes ≡ Ok mishaps.items)

abbrev pub IsWrong : (bytes : List ℕ) → ScheduleFault → Type 0
IsWrong bytes fault = (is_by_name bytes ≡ true) × (reading bytes ≡ Err fault)

-- THE FILE

abbrev pub GivesMishaps : Files → Option Text → Schedule → Type 0
GivesMishaps files None (Values codes) = codes.items ≡ []
GivesMishaps files None (Names mishaps) = ⊥
GivesMishaps files (Some file) schedule = (bytes : List ℕ) × files.gives file bytes × IsReadSo bytes schedule

-- it was read, and a line of it is wrong
pub record IsWrongFile (files : Files) (name : Option Text) (why : ScheduleFault) : Type 0 where
  pub file : Text
  pub same : name ≡ Some file
  pub bytes : List ℕ
  pub gives : files.gives file bytes
  pub wrong : IsWrong bytes why

-- it was not read, or it is wrong, or memory ran out
abbrev pub IsUngiven : Files → Option (Bor Text) → Fault → Type 0
IsUngiven files name fault =
    IsOptional files.unread name fault
    ⊎ ((why : ScheduleFault) × (fault ≡ Unscheduled why) × IsWrongFile files (option_map (λ file. file.now) name) why)

-- VALUES

-- each digit has an effect
abbrev pub HasValues : Schedule → (codes : List ℕ) → (idle : List Idle) → Type 0
HasValues (Values values) codes idle = (codes ≡ values.items) × (idle ≡ [])
HasValues (Names mishaps) codes idle = AreNamed mishaps.items codes idle

-- the bytes are these digits, or mishaps by name that give some events of a run these values; the lines without effect are
-- those of the events that are not among these
abbrev pub AreValuesOf : (bytes codes : List ℕ) → (idle : List Idle) → Type 0
AreValuesOf bytes codes idle =
    ((is_by_name bytes ≡ false) × (codes ≡ schedule_codes bytes) × (idle ≡ []))
    ⊎ ((is_by_name bytes ≡ true) × (mishaps : List NamedMishap) × (reading bytes ≡ Ok mishaps)
    × AreNamed mishaps codes idle)

-- the values for a run, by what its file gave; without a file there are none
abbrev pub GivesValues : Files → Option Text → (codes : List ℕ) → (idle : List Idle) → Type 0
GivesValues files None codes idle = (codes ≡ []) × (idle ≡ [])
GivesValues files (Some file) codes idle = (bytes : List ℕ) × files.gives file bytes × AreValuesOf bytes codes idle
