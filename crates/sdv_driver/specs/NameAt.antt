-- The next name of a list.
use Rattle.std.specs.Prelude.{ℕ, List, ◌∷◌, Option, Some, None, if◌then◌else◌}
use Rattle.std.specs.Str.{bytes_eq}
use Rattle.sdv_script.specs.Tokens.{Token, Name}
use Rattle.sdv_driver.specs.declared.words.TheConstants.{ENTRY}

-- the name at the front of these tokens, unless it is `entry`
abbrev pub next_name : List Token → Option (List ℕ)
next_name (Name n ∷ ts) = if bytes_eq n ENTRY.now then None else Some n
next_name ts = None
