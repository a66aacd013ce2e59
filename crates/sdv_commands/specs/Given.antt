-- A command over the bytes of a file that need not be named.
use Rattle.std.specs.Prelude.{◌≡◌, ◌⊎◌, ℕ, List, Option, Some, None}
use Rattle.std.specs.Io.KnownBytes.{Keeps}
use Rattle.clap.specs.Words.{Text}
use Rattle.sdv_program.specs.declared.fault.Fault.{Fault}
use Rattle.sdv_program.specs.declared.fault.Fault.TheVariants.{File, Memory}
use Rattle.sdv_program.specs.Files.{Files}
use Rattle.sdv_program.specs.Outcomes.{Ending}

-- the file of this name gave none; want of memory says nothing
abbrev pub NoBytes : Files → (wanted : Text) → Option Fault → Type 0
NoBytes files wanted (Some (File file)) = (file.now ≡ wanted) × files.unread wanted
NoBytes files wanted (Some Memory) = Unit {0}
NoBytes files wanted outcome = ⊥

-- without a name there are none; or the file gave none, and nothing was printed; or it gave these
abbrev pub OverGiven : Files → Option Text → (Ends : Option (List ℕ) → Ending) → Ending
OverGiven files None Ends = Ends None
OverGiven files (Some file) Ends = λ outcome before after.
    (NoBytes files file outcome × Keeps before after)
    ⊎ ((bytes : List ℕ) × files.gives file bytes × Ends (Some bytes) outcome before after)
