-- BYTES THAT GO TO A FILE of their own, if one is named for them.
use Rattle.std.specs.Prelude.{◌≡◌, ◌⊎◌, ◌<◌, ◌++◌, ℕ, List, Option, Some, None, length}
use Rattle.std.specs.Borrow.{Bor}
use Rattle.clap.specs.Words.{Text}
use Rattle.sdv_program.specs.declared.fault.Fault.{Fault}
use Rattle.sdv_program.specs.declared.fault.Fault.TheVariants.{File}
use Rattle.sdv_program.specs.Files.{Files}

-- it took the bytes
abbrev pub IsLeft : Files → Option Text → (bytes : List ℕ) → Type 0
IsLeft files None bytes = Unit {0}
IsLeft files (Some file) bytes = files.received file bytes

-- it took a front of them, and not all
abbrev pub TakesPart : Files → (file : Text) → (bytes : List ℕ) → Type 0
TakesPart files file bytes =
    (front back : List ℕ) × (bytes ≡ front ++ back) × (0 < length back) × files.received file front

abbrev pub LosesFile : Files → (file : Text) → (bytes : List ℕ) → Type 0
LosesFile files file bytes = files.uncreated file ⊎ (files.unfinished file ⊎ TakesPart files file bytes)

-- the fault names the file, which did not take them
abbrev pub LeavesFault : Files → Option (Bor Text) → (bytes : List ℕ) → Fault → Type 0
LeavesFault files None bytes fault = ⊥
LeavesFault files (Some file) bytes fault = (fault ≡ File file) × LosesFile files file.now bytes
