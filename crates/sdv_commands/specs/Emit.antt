-- `emit SCRIPT CERT NAME [--binary FILE]`: the table of the script of a file, in C, and its bytes in a file, which is none
-- of those that the command reads.
use Rattle.std.specs.Prelude.{◌≡◌, ℕ, List, [], ◌∷◌, Some, false}
use Rattle.clap.specs.Words.{Text}
use Rattle.sdv_program.specs.Requests.{EmitNames}
use Rattle.sdv_emit.specs.declared.emitting.Emitted.{Emitted}
use Rattle.sdv_emit.specs.Emitted.{Emits, IsTooWide}
use Rattle.sdv_emit.specs.Identifier.{is_identifier}
use Rattle.sdv_program.specs.Refused.{Refuses}
use Rattle.sdv_program.specs.declared.fault.Fault.{Fault}
use Rattle.sdv_program.specs.declared.fault.Fault.TheVariants.{Usage, File, Script, Certificate, Refused, Wide}
use Rattle.sdv_program.specs.Files.{Files}
use Rattle.sdv_program.specs.Left.{IsLeft, LosesFile}
use Rattle.sdv_program.specs.Outcomes.{Ending, OverText, Prints}
use Rattle.sdv_program.specs.Uses.{Role, reads, writes}
use Rattle.sdv_commands.specs.Taken.{UnlessTaken}

-- THE COMMAND

-- the text is that of the script's table, and its bytes went to the file
pub record IsTableText (files : Files) (names : EmitNames) (script certificate text : Text) : Type 0 where
  pub emitted : Emitted
  pub emits : Emits script certificate names.script names.name emitted
  pub left : IsLeft files names.binary emitted.binary.items
  pub same : text ≡ emitted.text.items

-- there is a table, whose bytes the file did not take
pub record IsUnwritten (files : Files) (names : EmitNames) (script certificate file : Text) : Type 0 where
  pub emitted : Emitted
  pub emits : Emits script certificate names.script names.name emitted
  pub named : names.binary ≡ Some file
  pub lost : LosesFile files file emitted.binary.items

abbrev pub Unemitted : Files → EmitNames → (script certificate : Text) → Fault → Type 0
Unemitted files names script certificate Usage = is_identifier names.name ≡ false
Unemitted files names script certificate (File file) = IsUnwritten files names script certificate file.now
Unemitted files names script certificate (Wide part) = IsTooWide script certificate part
Unemitted files names script certificate (Script fault) = Refuses script certificate (Script fault)
Unemitted files names script certificate (Certificate fault) = Refuses script certificate (Certificate fault)
Unemitted files names script certificate (Refused fault) = Refuses script certificate (Refused fault)
Unemitted files names script certificate fault = ⊥

-- what is printed of the script and the certificate that the files gave
abbrev pub TableEnds : Files → EmitNames → (script certificate : Text) → Ending
TableEnds files names script certificate =
    Prints (IsTableText files names script certificate) (Unemitted files names script certificate)

abbrev pub EmitsApart : Files → EmitNames → Ending
EmitsApart files names = OverText files names.script (λ script. OverText files names.certificate (λ certificate.
    TableEnds files names script certificate))

-- no file is lost by a slip
abbrev pub roles_of : EmitNames → List Role
roles_of names = reads (Some names.script) ∷ reads (Some names.certificate) ∷ writes names.binary ∷ []

abbrev pub EmitEnds : Files → EmitNames → Ending
EmitEnds files names = UnlessTaken files (roles_of names) (EmitsApart files names)
