-- How the lines of statements are found, token by token.
use Rattle.std.specs.Prelude.{ℕ, ◌+◌, List, [], ◌∷◌, length, Bool, false, if◌then◌else◌}
use Rattle.sdv_script.specs.declared.cursor.Cursor.{Cursor}
use Rattle.sdv_script.specs.declared.keyword.Keyword.TheVariants as word
use Rattle.sdv_script.specs.declared.lines.Before.{Before}
use Rattle.sdv_script.specs.declared.lines.Before.TheVariants.{Send, Index, Other}
use Rattle.sdv_script.specs.declared.token.Token.{Token as Read}
use Rattle.sdv_script.specs.declared.token.Token.TheVariants as read
use Rattle.sdv_script.specs.Lines.{line_behind, token_lines}
use Rattle.sdv_script.specs.Reading.{begins}
use Rattle.sdv_script.specs.Tokens.{Token, Key, Number}

-- what a token leaves behind for the next one
abbrev pub behind : Before → Token → Before
behind before (Key word.Send) = Send
behind Send (Number n) = Index
behind before token = Other

-- a token begins a statement; `bus.lines` behind the index of a command does not
abbrev pub begins_statement : Before → Token → Bool
begins_statement Index (Key word.BusLines) = false
begins_statement before (Key keyword) = begins keyword
begins_statement before token = false

-- the lines of the tokens that begin a statement
abbrev pub found_lines : Before → List Token → (lines : List ℕ) → List ℕ
found_lines before [] lines = []
found_lines before (t ∷ ts) [] = []
found_lines before (t ∷ ts) (l ∷ ls) =
    if begins_statement before t then l ∷ found_lines (behind before t) ts ls else found_lines (behind before t) ts ls

-- the lines of the tokens from a place on
abbrev pub line_list : Read → ℕ → List ℕ → List ℕ
line_list read.End line others = []
line_list token line others = line ∷ others

abbrev pub lines_at : Cursor → List ℕ
lines_at cursor = line_list cursor.token cursor.line (token_lines (line_behind cursor.line cursor.text.now) cursor.rest.now)

-- no line of the text up to its end has a greater number
abbrev pub reach : Cursor → ℕ
reach cursor = cursor.line + length cursor.text.now + length cursor.rest.now
