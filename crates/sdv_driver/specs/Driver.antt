-- Drivers: texts with their syntax trees.
use Rattle.std.specs.Prelude.{◌≡◌, ℕ, ◌≤◌, List, length, Some}
use Rattle.sdv_script.specs.Rules.{max_bytes}
use Rattle.sdv_script.specs.Tokens.{tokens}
use Rattle.sdv_driver.specs.Reading.{read_driver}
use Rattle.sdv_driver.specs.Tree.{Tree}

-- a text, and the tree that it is said to have
pub record Parsed : Type 0 where
  pub text : List ℕ
  pub tree : Tree

-- the text is a driver, and this is its tree
pub record IsDriver (d : Parsed) : Type 0 where
  pub small : length d.text ≤ max_bytes
  pub read : read_driver (tokens d.text) ≡ Some d.tree
