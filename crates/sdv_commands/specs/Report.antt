-- A REPORT: a page that is printed, and the fault that it tells of, by which the command then ends.
use Rattle.std.specs.Prelude.{◌≡◌, ◌⊎◌, Bool, Option, Some, None, if◌then◌else◌}
use Rattle.std.specs.Io.KnownBytes.{Appends}
use Rattle.clap.specs.Words.{Text}
use Rattle.sdv_text.specs.Written.{AppendsPart}
use Rattle.sdv_program.specs.Outcomes.{Ending}
use Rattle.sdv_program.specs.declared.fault.Fault.{Fault}
use Rattle.sdv_program.specs.declared.fault.Fault.TheVariants.{Found, Output, Memory}

-- the page was printed, or a part of it where the output failed
abbrev pub PrintsReport : (page : Text) → (told : Option Fault) → Ending
PrintsReport page told outcome before after =
    ((outcome ≡ told) × Appends before after page) ⊎ ((outcome ≡ Some Output) × AppendsPart before after page)

-- no page tells that the output failed, or that memory was refused
abbrev pub CanBeTold : Option Fault → Type 0
CanBeTold (Some Output) = ⊥
CanBeTold (Some Memory) = ⊥
CanBeTold told = Unit {0}

-- something was found, or nothing was
abbrev pub found_if : Bool → Option Fault
found_if is_found = if is_found then Some Found else None
