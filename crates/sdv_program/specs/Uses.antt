-- WHAT A COMMAND DOES WITH FILES. No file is lost by a slip: one that is written has none of the roles before that.
use Rattle.std.specs.Prelude.{◌≡◌, ◌⊎◌, ℕ, List, [], ◌∷◌, Option, Some, None, option_map, slice_get, take}
use Rattle.clap.specs.Words.{Text}
use Rattle.sdv_program.specs.Files.{Files}
use Rattle.sdv_program.specs.Requests.{RunNames}
use Rattle.sdv_program.specs.declared.uses.Role.{Role as CodeRole}
use Rattle.sdv_program.specs.declared.uses.Role.TheVariants.{Reads, Changes, Writes}

-- what a command does with a file, if one is named
pub data Role : Type 0 where
  reads : (file : Option Text) → Role
  -- it is read, and written in place
  changes : (file : Option Text) → Role
  -- it is made or emptied, and then written
  writes : (file : Option Text) → Role

abbrev pub file_of : Role → Option Text
file_of (reads file) = file
file_of (changes file) = file
file_of (writes file) = file

-- the file was named, and is this one
abbrev pub IsSameFile : Files → (name : Option Text) → (file : Text) → Type 0
IsSameFile files None file = ⊥
IsSameFile files (Some other) file = files.same other file

-- it was not, or is another one
abbrev pub IsApartFrom : Files → (name : Option Text) → (file : Text) → Type 0
IsApartFrom files None file = Unit {0}
IsApartFrom files (Some other) file = files.apart other file

-- one of the roles is for this file
abbrev pub IsUsed : Files → List Role → (file : Text) → Type 0
IsUsed files [] file = ⊥
IsUsed files (role ∷ roles) file = IsSameFile files (file_of role) file ⊎ IsUsed files roles file

-- none of them is
abbrev pub IsUnused : Files → List Role → (file : Text) → Type 0
IsUnused files [] file = Unit {0}
IsUnused files (role ∷ roles) file = IsApartFrom files (file_of role) file × IsUnused files roles file

-- the role writes this file, for which one of the others is too
abbrev pub IsWrittenOver : Files → (others : List Role) → Role → (file : Text) → Type 0
IsWrittenOver files others role file = (role ≡ writes (Some file)) × IsUsed files others file

-- where the role writes a file, none of the others is for it
abbrev pub StaysOff : Files → (others : List Role) → Role → Type 0
StaysOff files others role = (file : Text) → role ≡ writes (Some file) → IsUnused files others file

-- this file is written, and has one of the roles before that too
pub record Clashes (files : Files) (roles : List Role) (file : Text) : Type 0 where
  pub place : ℕ
  pub role : Role
  pub is_role : slice_get roles place ≡ Some role
  pub is_over : IsWrittenOver files (take place roles) role file

-- each file that is written has none of the roles before that
abbrev pub AreApart : Files → List Role → Type 0
AreApart files roles = (place : ℕ) (role : Role) → slice_get roles place ≡ Some role → StaysOff files (take place roles) role

-- what a run does with its files, in the order in which it uses them, with the file of its image if that is no new one
abbrev pub run_roles : RunNames → (image : Option Text) → List Role
run_roles names image =
    reads (Some names.script) ∷ reads (Some names.certificate) ∷ reads (Some names.card) ∷ changes image
    ∷ reads names.schedule ∷ reads names.input ∷ writes names.output ∷ writes names.registers ∷ []

-- THE CODE'S ROLE

abbrev pub seen_role : CodeRole → Role
seen_role (Reads file) = reads (option_map (λ file. file.now) file)
seen_role (Changes file) = changes (option_map (λ file. file.now) file)
seen_role (Writes file) = writes (option_map (λ file. file.now) file)
