-- The syntax tree of a driver.
use Rattle.std.specs.Prelude.{ℕ, List, Option}
use Rattle.sdv_card.specs.declared.state.Partition.{Partition}
use Rattle.sdv_graph.specs.Tree.{Declared, Statements}
use Rattle.sdv_driver.specs.declared.tree.Input.{Input}
use Rattle.sdv_driver.specs.declared.tree.Within.{Within}

pub record Entry : Type 0 where
  pub name : List ℕ
  -- what the driver declares, and the input as the last number variable
  pub names : Declared
  pub input : Option Input
  -- the partition that its blocks are in
  pub partition : Option Partition
  -- when a call is allowed
  pub within : Option Within
  pub body : Statements

pub record Tree : Type 0 where
  pub names : Declared
  pub entries : List Entry
