-- What the checker's yes PROMISES of a graph.
use Rattle.std.specs.Prelude.{ℕ, List}
use Rattle.sdv_graph.specs.Graph.{Graph, begin}
use Rattle.sdv_graph.specs.Path.{Path}
use Rattle.sdv_facts.specs.Facts.{PointFacts}
use Rattle.sdv_facts.specs.Beside.{RunsEnd, RunsWell}
use Rattle.sdv_facts.specs.Stands.{StepsWell}

pub record Promised (g : Graph) (ps : List PointFacts) (most : ℕ) : Type 0 where
  -- from wherever the facts of a point hold of a card and its host, the point's event is legal and in bounds, and after
  -- each step of the card the facts of the next point hold, what the host knows of the card is true, and the bound has
  -- fallen
  pub steps : StepsWell g ps
  -- so every run over the graph, beside any card of the kind, is as it should be
  pub runs : RunsWell g.kind (λ e es. Path g.kind g.points e (begin g) es) most
  -- and ends
  pub ends : RunsEnd (λ e es. Path g.kind g.points e (begin g) es) g.steps
