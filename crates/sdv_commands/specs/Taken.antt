-- NO FILE IS LOST BY A SLIP: a command refuses to write a file that it uses otherwise too.
use Rattle.std.specs.Prelude.{◌⊎◌, List, Option, Some}
use Rattle.std.specs.Io.KnownBytes.{Keeps}
use Rattle.sdv_program.specs.declared.fault.Fault.{Fault}
use Rattle.sdv_program.specs.declared.fault.Fault.TheVariants.{File}
use Rattle.sdv_program.specs.Files.{Files}
use Rattle.sdv_program.specs.Outcomes.{Ending}
use Rattle.sdv_program.specs.Uses.{AreApart, Clashes, Role}

-- the fault names a file that would be written, and that is used otherwise too
abbrev pub TakesOther : Files → List Role → Option Fault → Type 0
TakesOther files roles (Some (File file)) = Clashes files roles file.now
TakesOther files roles outcome = ⊥

-- a command whose files have these roles refused so, and did nothing; or no file is used twice so
abbrev pub UnlessTaken : Files → List Role → Ending → Ending
UnlessTaken files roles Ends outcome before after =
    (TakesOther files roles outcome × Keeps before after) ⊎ (AreApart files roles × Ends outcome before after)
