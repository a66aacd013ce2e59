-- What the verdicts on files come to.
use Rattle.std.proofs.Common.{◌≡◌, ◌&&◌, ◌||◌, if◌then◌else◌, inr, sym, subst, ℕ, zero, suc, Bool, true, false, not, List, Option, Some, None}
use Rattle.std.specs.Prelude.{is_none}
use Rattle.clap.specs.Words.{Text}
use Rattle.sdv_program.specs.declared.fault.Fault.{Fault}
use Rattle.sdv_program.specs.declared.fault.Fault.TheVariants.{File, Found, Memory}
use Rattle.sdv_program.specs.Files.{Files}
use Rattle.sdv_program.specs.Requests.{VerifyNames}
use Rattle.sdv_program.specs.Outcomes.{Reports}
use Rattle.sdv_program.proofs.StartLaws.{keeps_same}
use Rattle.sdv_verdict.specs.Told.{IsTold}
use Rattle.sdv_commands.specs.Report.{CanBeTold, found_if}
use Rattle.sdv_commands.specs.Verify.{IsToldOf, IsUnsaved, IsWorst, is_file, worse}

either_can : (b : Bool) (first second : Option Fault) → CanBeTold first → CanBeTold second → CanBeTold (if b then second else first)
either_can true first second a b = b
either_can false first second a b = a

worse_can : (first second : Option Fault) → CanBeTold first → CanBeTold second → CanBeTold (worse first second)
worse_can first second a b = either_can (is_none first || (is_file second && not (is_file first))) first second a b

-- what is told of the text that a file gave
pub told_of : (files : Files) (kinds : List Text) (file text : Text) (clear : Bool) → files.gives file text → IsTold text kinds clear
    → (told : Option Fault) → told ≡ found_if (not clear) → IsToldOf files kinds file told
told_of files kinds file text true gives is told same = subst (IsToldOf files kinds file) (sym same) (text, gives, is)
told_of files kinds file text false gives is told same = subst (IsToldOf files kinds file) (sym same) (text, gives, is)

-- the verdict on a file can be told
told_can : (files : Files) (kinds : List Text) (file : Text) (told : Option Fault) → IsToldOf files kinds file told → CanBeTold told
told_can files kinds file None of = tt
told_can files kinds file (Some Found) of = tt
told_can files kinds file (Some (File f)) of = tt
told_can files kinds file (Some _) of = absurd of

pub worst_can : (files : Files) (kinds names : List Text) (n : ℕ) (worst : Option Fault) → IsWorst files kinds names n worst → CanBeTold worst
worst_can files kinds names zero worst is = subst CanBeTold (sym is) tt
worst_can files kinds names (suc n) worst is =
    subst CanBeTold (sym is.2.worst)
    (worse_can is.0 is.2.told (worst_can files kinds names n is.0 is.1) (told_can files kinds is.2.file is.2.told is.2.told_of))

-- where a folder does not take what a run needs, nothing is printed
pub unsaved_ends : (names : VerifyNames) (IsReport : Option Fault → Text → Type 0) (fault : Fault) (known : Option (List ℕ)) → IsUnsaved names fault
    → Reports IsReport (IsUnsaved names) (Some fault) known known
unsaved_ends names IsReport Memory known is = keeps_same known
unsaved_ends names IsReport (File folder) known is = inr (is, keeps_same known)
unsaved_ends names IsReport _ known is = absurd is
