-- When what is known of numbers at an edge's target is no more than what the edge carries.
-- Bounds are this project's own.
use Rattle.std.specs.Prelude.{◌≤◌, ◌<◌, ℕ, length, Option, Some, None}
use Rattle.sdv_facts.specs.declared.numbers.VarFacts.{VarFacts}
use Rattle.sdv_facts.specs.declared.numbers.Numbers.{Numbers}
use Rattle.sdv_facts.specs.Facts.{var}

-- no gap says the least
abbrev pub GapCovers : (target carried : Option ℕ) → Type 0
GapCovers None carried = Unit {0}
GapCovers (Some gap) None = ⊥
GapCovers (Some gap) (Some carried) = gap ≤ carried

pub record VarCovers (target carried : VarFacts) : Type 0 where
  pub low : target.lo ≤ carried.lo
  pub high : carried.hi ≤ target.hi
  pub gap : GapCovers target.gap carried.gap
  pub bgap : GapCovers target.bgap carried.bgap

-- a target covers what is carried
pub record Covers (target carried : Numbers) : Type 0 where
  pub least : target.m ≤ carried.m
  pub least_boot : target.mb ≤ carried.mb
  pub each : (x : ℕ) → x < length target.vars.items → VarCovers (var target x) (var carried x)
