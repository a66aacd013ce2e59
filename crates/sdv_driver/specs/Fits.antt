-- What is so of each entry that is read.
use Rattle.std.specs.Prelude.{◌≡◌, ◌+◌, ℕ, List, [], ◌∷◌, length, Option, Some, None}
use Rattle.sdv_graph.specs.Tree.{Declared}
use Rattle.sdv_script.specs.Rules.{ScriptFits}
use Rattle.sdv_driver.specs.declared.tree.Input.{Input}
use Rattle.sdv_driver.specs.Tree.{Entry}

abbrev pub input_count : Option Input → ℕ
input_count None = 0
input_count (Some i) = 1

-- its names are those that the driver declares, and its input; and its names, statements and limits are such as those
-- of a script
pub record EntryFits (names : Declared) (e : Entry) : Type 0 where
  pub kind : e.names.kind ≡ names.kind
  pub numbers : length e.names.numbers ≡ length names.numbers + input_count e.input
  pub script : ScriptFits e.names e.body

abbrev pub EachFits : Declared → List Entry → Type 0
EachFits names [] = Unit {0}
EachFits names (e ∷ es) = EntryFits names e × EachFits names es

-- so they are for the names of some driver
abbrev pub FitADriver : List Entry → Type 0
FitADriver es = ∥ ((names : Declared) × EachFits names es) ∥₁
