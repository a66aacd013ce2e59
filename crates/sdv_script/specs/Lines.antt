-- The LINES of a script: on which line of its text each token stands, and on which line each statement begins.
use Rattle.std.specs.Prelude.{ℕ, zero, suc, ◌+◌, ◌-◌, List, [], ◌∷◌, length, take, drop, Bool, true, false, count_by}
use Rattle.sdv_graph.specs.Tree.{Statements, nothing, first, Ways, otherwise, way, Statement, send, phase, setting, choice, set, clear, bus_lines, turns, break, done, fault, Declared}
use Rattle.sdv_card.specs.Modes.{line_count}
use Rattle.sdv_script.specs.declared.token.Sign.TheVariants as sign
use Rattle.sdv_script.specs.declared.keyword.Keyword.TheVariants as word
use Rattle.sdv_script.specs.Faults.{is_line_feed}
use Rattle.sdv_script.specs.Grammar.{flag_name, command_written, guards_written, phase_written, let_written, condition_written, list_written, kind_word}
use Rattle.sdv_script.specs.Script.{Parsed}
use Rattle.sdv_script.specs.Tokens.{Token, Key, Name, Number, Mark, after_gap, first_found}

-- THE LINES OF TOKENS: the first line of a text is line 1, and behind each line feed there is a further one

-- the line behind some text that begins on a line
abbrev pub line_behind : (line : ℕ) → List ℕ → ℕ
line_behind line text = line + count_by is_line_feed text

-- the blanks and comments that a text begins with
abbrev pub gap_of : List ℕ → List ℕ
gap_of text = take (length text - length (after_gap false text)) text

-- the line of the first token, and those of the tokens in what follows it
abbrev pub lines_by : ((line : ℕ) → List ℕ → List ℕ) → (line : ℕ) → List ℕ → List ℕ
lines_by others line [] = []
lines_by others line (b ∷ bs) =
    line ∷ others (line_behind line (take (first_found (b ∷ bs)).1 (b ∷ bs))) (drop (first_found (b ∷ bs)).1 (b ∷ bs))

-- the lines of the first n tokens of a text that begins on a line
unfoldable pub first_lines : ℕ → (line : ℕ) → List ℕ → List ℕ
first_lines zero line text = []
first_lines (suc n) line text = lines_by (first_lines n) (line_behind line (gap_of text)) (after_gap false text)

-- the line of each token of a text that begins on a line
unfoldable pub token_lines : (line : ℕ) → List ℕ → List ℕ
token_lines line text = first_lines (length text) line text

-- WHICH TOKENS BEGIN A STATEMENT: the grammar once more, with `true` for each token that is the first one of a statement

-- none of these tokens is
abbrev pub inside : List Token → List Bool → List Bool
inside [] others = others
inside (t ∷ ts) others = false ∷ inside ts others

-- the first of these tokens is
abbrev pub headed : List Token → List Bool → List Bool
headed [] others = others
headed (t ∷ ts) others = true ∷ inside ts others

abbrev mutual
  pub statements_heads : Declared → Statements → List Bool → List Bool
  statements_heads names nothing others = others
  statements_heads names (first s rest) others = statement_heads names s (statements_heads names rest others)

  pub ways_heads : Declared → Ways → List Bool → List Bool
  ways_heads names (otherwise b) others =
      inside (Key word.Else ∷ Mark sign.OpenBrace ∷ []) (statements_heads names b
      (inside (Mark sign.CloseBrace ∷ []) others))
  ways_heads names (way gs b rest) others =
      inside (guards_written gs (Mark sign.OpenBrace ∷ [])) (statements_heads names b
      (inside (Mark sign.CloseBrace ∷ []) (ways_heads names rest others)))

  pub statement_heads : Declared → Statement → List Bool → List Bool
  statement_heads names (send c ways) others =
      headed (Key word.Send ∷ command_written names c (Mark sign.OpenBrace ∷ []))
      (ways_heads names ways (inside (Mark sign.CloseBrace ∷ []) others))
  statement_heads names (phase p a b) others =
      headed (phase_written p (Mark sign.OpenBrace ∷ Key word.Ok ∷ Mark sign.OpenBrace ∷ [])) (statements_heads names a
      (inside (Mark sign.CloseBrace ∷ Key word.Else ∷ Mark sign.OpenBrace ∷ []) (statements_heads names b
      (inside (Mark sign.CloseBrace ∷ Mark sign.CloseBrace ∷ []) others))))
  statement_heads names (setting l) others = headed (let_written names l []) others
  statement_heads names (choice c a b) others =
      headed (Key word.If ∷ condition_written names c (Mark sign.OpenBrace ∷ [])) (statements_heads names a
      (inside (Mark sign.CloseBrace ∷ Key word.Else ∷ Mark sign.OpenBrace ∷ []) (statements_heads names b
      (inside (Mark sign.CloseBrace ∷ []) others))))
  statement_heads names (set f) others = headed (Key word.Set ∷ flag_name names f ∷ []) others
  statement_heads names (clear f) others = headed (Key word.Clear ∷ flag_name names f ∷ []) others
  statement_heads names (bus_lines width) others = headed (Key word.BusLines ∷ Number (line_count width) ∷ []) others
  statement_heads names (turns n a b) others =
      headed (Key word.Loop ∷ Number n ∷ Mark sign.OpenBrace ∷ []) (statements_heads names a
      (inside (Mark sign.CloseBrace ∷ Key word.Else ∷ Mark sign.OpenBrace ∷ []) (statements_heads names b
      (inside (Mark sign.CloseBrace ∷ []) others))))
  statement_heads names break others = headed (Key word.Break ∷ []) others
  statement_heads names done others = headed (Key word.Done ∷ []) others
  statement_heads names (fault name) others = headed (Key word.Fault ∷ Name name ∷ []) others

abbrev pub script_heads : Declared → Statements → List Bool
script_heads names body =
    inside (Key word.Card ∷ Key (kind_word names.kind) ∷ list_written word.Flags names.flags
    (list_written word.Nums names.numbers [])) (statements_heads names body [])

-- THE LINES OF STATEMENTS

-- the entries that are marked
abbrev pub marked : List Bool → List ℕ → List ℕ
marked [] lines = []
marked (m ∷ ms) [] = []
marked (true ∷ ms) (l ∷ ls) = l ∷ marked ms ls
marked (false ∷ ms) (l ∷ ls) = marked ms ls

-- the line of each statement's first token, in the order of these tokens
abbrev pub statement_lines : Parsed → List ℕ
statement_lines s = marked (script_heads s.names s.body) (token_lines 1 s.text)
