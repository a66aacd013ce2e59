-- Scripts: texts with their syntax trees.
use Rattle.std.specs.Prelude.{◌≡◌, ℕ, ◌≤◌, List, length}
use Rattle.sdv_script.specs.Tokens.{tokens}
use Rattle.sdv_graph.specs.Tree.{Declared, Statements}
use Rattle.sdv_script.specs.Grammar.{script_written}
use Rattle.sdv_script.specs.Rules.{max_bytes, ScriptFits}

-- a text, and the names and statements that it is said to have
pub record Parsed : Type 0 where
  pub text : List ℕ
  pub names : Declared
  pub body : Statements

-- the text is a script, and this is its tree
pub record IsScript (s : Parsed) : Type 0 where
  pub small : length s.text ≤ max_bytes
  pub written : tokens s.text ≡ script_written s.names s.body
  pub fits : ScriptFits s.names s.body
