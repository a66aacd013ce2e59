-- What a token of the code stands for.
use Rattle.std.specs.Prelude.{ℕ, List, [], ◌∷◌}
use Rattle.sdv_script.specs.declared.token.Token.{Token as Read}
use Rattle.sdv_script.specs.declared.token.Token.TheVariants as read
use Rattle.sdv_script.specs.Tokens.{Token, Key, Name, Dotted, Number, Mark, Stray, Found}

-- the token; at the end of the text there is none, and this is never asked
abbrev pub token_of : Read → Token
token_of (read.Key keyword) = Key keyword
token_of (read.Name text) = Name text.now
token_of read.Dotted = Dotted
token_of (read.Number value) = Number value
token_of (read.Mark sign) = Mark sign
token_of read.Stray = Stray
token_of read.End = Stray

-- it is not the end of the text
abbrev pub IsThere : Read → Type 0
IsThere read.End = ⊥
IsThere token = Unit {0}

abbrev pub found_of : Read × ℕ → Found
found_of found = (token_of found.0, found.1)

-- a token, and those after it
abbrev pub list_of : Read → List Token → List Token
list_of read.End others = []
list_of token others = token_of token ∷ others
