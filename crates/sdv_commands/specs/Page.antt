-- The PAGES that words ask for: how the program is called, its version, and how a command is called. No clause says what stands
-- on them.
use Rattle.std.specs.Prelude.{Bool, false, List, [], ◌∷◌, ◌||◌, ◌&&◌, codes}
use Rattle.std.specs.Str.{bytes_eq}
use Rattle.clap.specs.Words.{Text}
use Rattle.sdv_program.specs.Commands.{names_command}
use Rattle.sdv_program.specs.Outcomes.{Ending, Prints}
use Rattle.sdv_program.specs.declared.fault.Fault.{Fault}

abbrev pub asks_for_help : (word : Text) → Bool
asks_for_help word = bytes_eq word (codes "--help") || bytes_eq word (codes "-h")

abbrev pub names_page : (word : Text) → Bool
names_page word = asks_for_help word || (bytes_eq word (codes "--version") || bytes_eq word (codes "-V"))

-- a command and a word that asks for help
abbrev pub command_help : (name word : Text) → Bool
command_help name word = asks_for_help word && names_command name

-- nothing stands behind the two words
abbrev pub help_by : (name word : Text) (rest : List Text) → Bool
help_by name word [] = command_help name word
help_by name word (w ∷ ws) = false

abbrev pub page_by : (name : Text) (rest : List Text) → Bool
page_by name [] = names_page name
page_by name (word ∷ rest) = help_by name word rest

-- the words ask for a page
abbrev pub asks_page : (words : List Text) → Bool
asks_page [] = false
asks_page (name ∷ rest) = page_by name rest

-- some page was printed, unless memory was refused
abbrev pub PrintsPage : Ending
PrintsPage = Prints (λ (page : Text). Unit {0}) (λ (fault : Fault). ⊥)
