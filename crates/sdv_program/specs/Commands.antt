-- The TABLE OF COMMANDS: the words behind the name of each command. What is said of them for people stands in the code alone.
use Rattle.std.specs.Prelude.{Bool, List, [], ◌∷◌, Option, codes, find, is_some, map}
use Rattle.std.specs.Str.{bytes_eq}
use Rattle.clap.specs.Words.{Text}
use Rattle.sdv_program.specs.declared.table.CommandEntry.{CommandEntry}
use Rattle.sdv_program.specs.declared.table.Word.{Word as CodeWord}
use Rattle.sdv_program.specs.declared.table.Word.TheVariants.{Required, Optional, Several, WithValue, Each, Flag}

-- a word behind the name of a command
pub data Word : Type 0 where
  -- in its place, and may not be left out
  required : (name : Text) → Word
  -- in its place, and may be left out
  optional : (name : Text) → Word
  -- one or more, in the last place
  several : (name : Text) → Word
  -- `--NAME VALUE`, and may be left out
  with_value : (name : Text) → Word
  -- `--NAME VALUE`, and may be left out or stand more than once
  repeated : (name : Text) → Word
  -- `--NAME`, and may be left out
  flag : (name : Text) → Word

pub record Command : Type 0 where
  pub name : Text
  pub words : List Word

abbrev command : (name : Text) (words : List Word) → Command
command name words = record { name = name; words = words }

abbrev script : Word
script = required (codes "SCRIPT")

abbrev certificate : Word
certificate = required (codes "CERT")

abbrev card : Word
card = required (codes "CARD")

abbrev image : Word
image = required (codes "IMAGE")

abbrev schedule : Word
schedule = optional (codes "SCHEDULE")

abbrev pub commands : List Command
commands =
    command (codes "frame") (required (codes "INDEX") ∷ required (codes "ARG") ∷ [])
    ∷ command (codes "verify") (several (codes "FILE") ∷ flag (codes "json") ∷ flag (codes "no-run")
    ∷ with_value (codes "save") ∷ repeated (codes "allow") ∷ [])
    ∷ command (codes "certify") (script ∷ [])
    ∷ command (codes "check") (script ∷ certificate ∷ [])
    ∷ command (codes "run") (script ∷ certificate ∷ card ∷ image ∷ schedule ∷ with_value (codes "in")
    ∷ with_value (codes "out") ∷ with_value (codes "registers") ∷ [])
    ∷ command (codes "batch") (required (codes "KIND") ∷ required (codes "REQUESTS") ∷ [])
    ∷ command (codes "explain") (script ∷ optional (codes "CERT") ∷ flag (codes "why") ∷ flag (codes "dot")
    ∷ flag (codes "no-faults") ∷ [])
    ∷ command (codes "emit") (script ∷ certificate ∷ required (codes "NAME") ∷ with_value (codes "binary") ∷ [])
    ∷ command (codes "audit") (required (codes "KIND") ∷ required (codes "TRACE") ∷ flag (codes "json")
    ∷ flag (codes "annotate") ∷ flag (codes "running") ∷ with_value (codes "script") ∷ with_value (codes "registers") ∷ flag (codes "svg") ∷ [])
    ∷ command (codes "drive") (script ∷ certificate ∷ with_value (codes "in") ∷ with_value (codes "out")
    ∷ with_value (codes "trace") ∷ flag (codes "plain") ∷ [])
    ∷ command (codes "card") (card ∷ optional (codes "IMAGE") ∷ schedule ∷ flag (codes "describe") ∷ [])
    ∷ command (codes "try") (script ∷ card ∷ image ∷ schedule ∷ with_value (codes "in") ∷ with_value (codes "out")
    ∷ flag (codes "each") ∷ repeated (codes "card") ∷ with_value (codes "only") ∷ flag (codes "json") ∷ flag (codes "lines")
    ∷ [])
    ∷ []

abbrev pub command_in : List Command → (name : Text) → Option Command
command_in all name = find (λ (command : Command). bytes_eq command.name name) all

-- a command has this name
abbrev pub names_command : (name : Text) → Bool
names_command name = is_some (command_in commands name)

-- a word and a command of the code's table
abbrev pub seen_word : CodeWord → Word
seen_word (Required name meaning) = required name.now
seen_word (Optional name meaning) = optional name.now
seen_word (Several name meaning) = several name.now
seen_word (WithValue name value meaning) = with_value name.now
seen_word (Each name value meaning) = repeated name.now
seen_word (Flag name meaning) = flag name.now

abbrev pub seen_command : CommandEntry → Command
seen_command entry = record { name = entry.name.now; words = map seen_word entry.words.now }
