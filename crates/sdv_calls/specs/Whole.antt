-- What the checker holds of a whole certificate.
use Rattle.std.specs.Prelude.{◌≡◌, ℕ, List, length}
use Rattle.sdv_graph.specs.Graph.{Graph}
use Rattle.sdv_facts.specs.Facts.{PointFacts}
use Rattle.sdv_facts.specs.Limits.{NumbersInLimits}
use Rattle.sdv_calls.specs.declared.said.Said.{Said}
use Rattle.sdv_calls.specs.Closed.{PartsMatch, rest_of}
use Rattle.sdv_calls.specs.Shown.{points_said, rest_said}

pub record IsWhole (numbers : ℕ) (gs : List Graph) (ps : List PointFacts) (said : Said) : Type 0 where
  pub matches : PartsMatch numbers gs ps
  pub points : points_said said ≡ ps
  pub rest : rest_said said ≡ rest_of gs ps
  pub many : length said.rest.now.numbers.vars.items ≡ numbers
  pub limits : NumbersInLimits said.rest.now.numbers
