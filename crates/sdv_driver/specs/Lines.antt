-- The lines on which the statements of a driver's entries begin.
use Rattle.std.specs.Prelude.{◌≡◌, ℕ, ◌+◌, List, [], ◌∷◌, ◌++◌, Bool, take, drop, Option, Some, None}
use Rattle.sdv_graph.specs.Counts.{statements_count}
use Rattle.sdv_graph.specs.Graph.{Graph}
use Rattle.sdv_graph.specs.GraphOf.{IsGraphOf}
use Rattle.sdv_graph.specs.Tree.{Declared}
use Rattle.sdv_script.specs.Grammar.{kind_word, list_written}
use Rattle.sdv_script.specs.Lines.{inside, headed, marked, statements_heads, token_lines}
use Rattle.sdv_script.specs.Tokens.{Key, Name, Mark}
use Rattle.sdv_script.specs.declared.keyword.Keyword.TheVariants as word
use Rattle.sdv_script.specs.declared.token.Sign.TheVariants as sign
use Rattle.sdv_driver.specs.declared.tree.Within.{Within}
use Rattle.sdv_driver.specs.declared.words.TheConstants.{DRIVER, ENTRY}
use Rattle.sdv_driver.specs.Driver.{Parsed}
use Rattle.sdv_driver.specs.Grammar.{input_written, access_written, within_written}
use Rattle.sdv_driver.specs.Tree.{Entry, Tree}

-- WHICH TOKENS BEGIN A STATEMENT, or an `if` before an entry's statements: the grammar once more, with `true` for each
-- of these

abbrev pub within_heads : Declared → Option Within → List Bool → List Bool
within_heads names None others = others
within_heads names (Some w) others = headed (within_written names (Some w) []) others

abbrev pub entry_heads : Entry → List Bool → List Bool
entry_heads e others =
    inside (Name ENTRY.now ∷ Name e.name ∷ input_written e.names e.input (access_written e.partition []))
    (within_heads e.names e.within (inside (Mark sign.OpenBrace ∷ []) (statements_heads e.names e.body
    (inside (Mark sign.CloseBrace ∷ []) others))))

abbrev pub entries_heads : List Entry → List Bool
entries_heads [] = []
entries_heads (e ∷ es) = entry_heads e (entries_heads es)

abbrev pub driver_heads : Tree → List Bool
driver_heads d =
    inside (Name DRIVER.now ∷ Key (kind_word d.names.kind) ∷ list_written word.Flags d.names.flags
    (list_written word.Nums d.names.numbers [])) (entries_heads d.entries)

-- their lines, in the order of these tokens
abbrev pub driver_lines : Parsed → List ℕ
driver_lines d = marked (driver_heads d.tree) (token_lines 1 d.text)

-- THE GRAPHS OF THE ENTRIES

abbrev pub within_count : Option Within → ℕ
within_count None = 0
within_count (Some w) = 1

-- how many statements entries have, the `if`s before them included
abbrev pub begun_count : List Entry → ℕ
begun_count [] = 0
begun_count (e ∷ es) = within_count e.within + (statements_count e.body + begun_count es)

-- of the lines of an entry and of later ones, those of the entry's statements
abbrev pub lines_here : Entry → List ℕ → List ℕ
lines_here e lines = take (statements_count e.body) (drop (within_count e.within) lines)

-- and those of later ones
abbrev pub lines_behind : Entry → List ℕ → List ℕ
lines_behind e lines = drop (within_count e.within + statements_count e.body) lines

-- these are the graphs of the entries, which stand on these lines
abbrev pub AreGraphs : List Entry → (lines : List ℕ) → List Graph → Type 0
AreGraphs [] lines [] = Unit {0}
AreGraphs (e ∷ es) lines (g ∷ gs) =
    IsGraphOf e.names e.body (lines_here e lines) g × AreGraphs es (lines_behind e lines) gs
AreGraphs es lines gs = ⊥

-- graphs of these entries follow those that are there
pub record Adds (es : List Entry) (lines : List ℕ) (before after : List Graph) : Type 0 where
  pub graphs : List Graph
  pub behind : after ≡ before ++ graphs
  pub are : AreGraphs es lines graphs
