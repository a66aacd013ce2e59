-- Which numbers a certificate can say: none is above the greatest number of a script.
-- The limit is this project's own.
use Rattle.std.specs.Prelude.{◌≤◌, ℕ, All, IfSome}
use Rattle.sdv_graph.specs.declared.tree.Atom.{Atom}
use Rattle.sdv_graph.specs.declared.tree.Atom.TheVariants.{Number}
use Rattle.sdv_graph.specs.Counts.{max_number}
use Rattle.sdv_facts.specs.declared.numbers.VarFacts.{VarFacts}
use Rattle.sdv_facts.specs.declared.numbers.Numbers.{Numbers}
use Rattle.sdv_facts.specs.Facts.{PointFacts}

abbrev pub IsInLimits : ℕ → Type 0
IsInLimits n = n ≤ max_number

-- a number that a script writes
abbrev pub AtomInLimits : Atom → Type 0
AtomInLimits (Number n) = IsInLimits n
AtomInLimits atom = Unit {0}

pub record VarInLimits (v : VarFacts) : Type 0 where
  pub lo : IsInLimits v.lo
  pub hi : IsInLimits v.hi
  pub gap : IfSome v.gap IsInLimits
  pub bgap : IfSome v.bgap IsInLimits

pub record NumbersInLimits (ns : Numbers) : Type 0 where
  pub m : IsInLimits ns.m
  pub mb : IsInLimits ns.mb
  pub vars : All VarInLimits ns.vars.items

pub record PointInLimits (p : PointFacts) : Type 0 where
  pub numbers : NumbersInLimits p.facts.numbers
  pub base : IsInLimits p.base
  pub turns : All IsInLimits p.turns.items
