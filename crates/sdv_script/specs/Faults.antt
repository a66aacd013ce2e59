-- What is wrong at a token, and on which line.
use Rattle.std.specs.Prelude.{ℕ, Bool, ◌==◌}
use Rattle.sdv_script.specs.declared.token.Token.{Token as Read}
use Rattle.sdv_script.specs.declared.token.Token.TheVariants as read
use Rattle.sdv_script.specs.declared.fault.FaultKind.{FaultKind}
use Rattle.sdv_script.specs.declared.fault.FaultKind.TheVariants as kinds

-- a stray token is wrong whatever was wanted
abbrev pub kind_at : Read → FaultKind → FaultKind
kind_at read.Stray wanted = kinds.Token
kind_at token wanted = wanted

-- a word that is no name is wrong as a name, and any other token as what is said of it
abbrev pub no_name_kind : Read → FaultKind → FaultKind
no_name_kind (read.Key keyword) wanted = kinds.Name
no_name_kind read.Dotted wanted = kinds.Name
no_name_kind token wanted = kind_at token wanted

-- where a first name is declared, only a reserved word is wrong as a name
abbrev pub no_first_kind : Read → FaultKind
no_first_kind (read.Key keyword) = kinds.Name
no_first_kind token = kind_at token kinds.Syntax

-- what ends a line
abbrev pub is_line_feed : ℕ → Bool
is_line_feed b = b == 10
