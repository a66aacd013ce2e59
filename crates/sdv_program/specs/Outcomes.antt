-- How a command ends, and what it prints: the words in which the contract of each command is written.
use Rattle.std.specs.Prelude.{◌≡◌, ◌⊎◌, ℕ, List, Option, Some, None, Result, Ok, Err}
use Rattle.std.specs.Io.KnownBytes.{Appends, Keeps}
use Rattle.clap.specs.Words.{Text}
use Rattle.sdv_text.specs.Written.{AppendsPart}
use Rattle.sdv_program.specs.declared.fault.Fault.{Fault}
use Rattle.sdv_program.specs.declared.fault.Fault.TheVariants.{File, Output, Memory}
use Rattle.sdv_program.specs.Files.{Files, GivesNoText}

-- the fault by which a command ended, or none after its answer
abbrev pub outcome_of : {T : Type 0} → Result T Fault → Option Fault
outcome_of (Ok answer) = None
outcome_of (Err fault) = Some fault

-- what is known of standard output before and after a command, by its outcome
abbrev pub Ending : Type 1
Ending = (outcome : Option Fault) (before after : Option (List ℕ)) → Type 0

-- the text was printed, or a part of it where the output failed
abbrev pub PrintsText : Text → Ending
PrintsText text None before after = Appends before after text
PrintsText text (Some Output) before after = AppendsPart before after text
PrintsText text (Some fault) before after = ⊥

-- A command that prints one text, and only where it ends well. `IsText` says which text that is, and `Because` of a fault
-- why there is none; want of memory says nothing.
abbrev pub Prints : (IsText : Text → Type 0) (Because : Fault → Type 0) → Ending
Prints IsText Because None before after = (text : Text) × IsText text × Appends before after text
Prints IsText Because (Some Output) before after = (text : Text) × IsText text × AppendsPart before after text
Prints IsText Because (Some Memory) before after = Keeps before after
Prints IsText Because (Some fault) before after = Because fault × Keeps before after

-- A command that prints a report, and ends by the fault that the report tells of, if it tells of one. `IsReport` says which
-- text tells of which fault, and `Because` why there is no report.
abbrev pub Reports : (IsReport : Option Fault → Text → Type 0) (Because : Fault → Type 0) → Ending
Reports IsReport Because None before after = (text : Text) × IsReport None text × Appends before after text
Reports IsReport Because (Some Output) before after =
    (told : Option Fault) × (text : Text) × IsReport told text × AppendsPart before after text
Reports IsReport Because (Some Memory) before after = Keeps before after
Reports IsReport Because (Some fault) before after =
    ((text : Text) × IsReport (Some fault) text × Appends before after text) ⊎ (Because fault × Keeps before after)

-- why a file gave no text; want of memory says nothing
abbrev pub NoText : Files → (wanted : Text) → Option Fault → Type 0
NoText files wanted (Some (File file)) = (file.now ≡ wanted) × GivesNoText files wanted
NoText files wanted (Some Memory) = Unit {0}
NoText files wanted outcome = ⊥

-- A command over the text of a file: the file gave none, and nothing was printed; or it gave a text, and `Ends` says the rest.
abbrev pub OverText : Files → (file : Text) → (Ends : Text → Ending) → Ending
OverText files file Ends outcome before after =
    (NoText files file outcome × Keeps before after)
    ⊎ ((text : Text) × files.gives file text × Ends text outcome before after)
