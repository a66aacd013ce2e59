-- The words that a driver has and a script has not. They are names where a script is read.
use Rattle.std.specs.Prelude.{ℕ, List, ◌∷◌, Bool, ◌||◌, Option, Some, None, if◌then◌else◌}
use Rattle.std.specs.Str.{bytes_eq}
use Rattle.sdv_script.specs.Tokens.{Token, Name}
use Rattle.sdv_driver.specs.declared.words.TheConstants.{DRIVER, ENTRY, BLOCKS}

-- what stands behind the word
abbrev pub after_word : (word : List ℕ) → List Token → Option (List Token)
after_word word (Name n ∷ ts) = if bytes_eq n word then Some ts else None
after_word word ts = None

-- no name of a driver is spelled so
abbrev pub is_reserved : List ℕ → Bool
is_reserved n = bytes_eq n DRIVER.now || bytes_eq n ENTRY.now || bytes_eq n BLOCKS.now
