use Rattle.std.proofs.Common.{ℕ, ◌<◌}
use Rattle.sdv_facts.specs.Facts.{var}
use Rattle.sdv_facts.specs.Covers.{VarCovers}
use Rattle.sdv_facts.proofs.cover.covers.Given as goal

abbrev pub invariant-loop-place : goal.invariant-loop-place
invariant-loop-place l = (x : ℕ) → x < l.place → VarCovers (var l.target x) (var l.carried x)
