-- `verify FILE..`: the verdicts on the scripts of files are printed, in their order, and the command ends by the worst of them.
-- No clause says which words tell of it.
use Rattle.std.specs.Prelude.{◌≡◌, ◌&&◌, ◌||◌, if◌then◌else◌, not, is_none, Bool, ℕ, zero, suc, true, false, List, length, Option, Some, None, slice_get}
use Rattle.clap.specs.Words.{Text}
use Rattle.sdv_verdict.specs.Told.{IsTold}
use Rattle.sdv_program.specs.Requests.{VerifyNames}
use Rattle.sdv_program.specs.Files.{Files, GivesNoText}
use Rattle.sdv_program.specs.Outcomes.{Ending, Reports}
use Rattle.sdv_program.specs.declared.fault.Fault.{Fault}
use Rattle.sdv_program.specs.declared.fault.Fault.TheVariants.{File, Found, Memory}

-- the file gives a text, of which this is told
abbrev pub GivesTold : Files → (kinds : List Text) → (file : Text) → (clear : Bool) → Type 0
GivesTold files kinds file clear = (text : Text) × files.gives file text × IsTold text kinds clear

-- the fault by which the verdict on a file is told: none where nothing counts
abbrev pub IsToldOf : Files → (kinds : List Text) → (file : Text) → (told : Option Fault) → Type 0
IsToldOf files kinds file None = GivesTold files kinds file true
IsToldOf files kinds file (Some Found) = GivesTold files kinds file false
IsToldOf files kinds file (Some (File unread)) = (unread.now ≡ file) × GivesNoText files file
IsToldOf files kinds file told = ⊥

-- of two the one by which a command ends that meets both: a file that cannot be used weighs more than a finding
abbrev pub is_file : Option Fault → Bool
is_file (Some (File file)) = true
is_file fault = false

abbrev pub worse : (first second : Option Fault) → Option Fault
worse first second = if is_none first || (is_file second && not (is_file first)) then second else first

-- the verdict on the file with this number
pub record IsNext (files : Files) (kinds names : List Text) (n : ℕ) (before after : Option Fault) : Type 0 where
  pub file : Text
  pub named : slice_get names n ≡ Some file
  pub told : Option Fault
  pub told_of : IsToldOf files kinds file told
  pub worst : after ≡ worse before told

-- the worst of the first n verdicts
abbrev pub IsWorst : Files → (kinds names : List Text) → (n : ℕ) → (worst : Option Fault) → Type 0
IsWorst files kinds names zero worst = worst ≡ None
IsWorst files kinds names (suc n) worst =
    (before : Option Fault) × IsWorst files kinds names n before × IsNext files kinds names n before worst

abbrev pub AreVerified : Files → VerifyNames → (told : Option Fault) → (text : Text) → Type 0
AreVerified files names told text = IsWorst files names.allowed names.files (length names.files) told

-- why nothing is printed: memory was refused, or the folder did not take what a run needs
abbrev pub IsUnsaved : VerifyNames → Fault → Type 0
IsUnsaved names Memory = Unit {0}
IsUnsaved names (File folder) = names.save ≡ Some folder.now
IsUnsaved names fault = ⊥

abbrev pub VerifyEnds : Files → VerifyNames → Ending
VerifyEnds files names = Reports (AreVerified files names) (IsUnsaved names)
