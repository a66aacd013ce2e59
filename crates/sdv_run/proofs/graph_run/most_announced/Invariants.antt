use Rattle.std.proofs.Common.{◌≡◌, ℕ, ◌<◌, ◌≤◌, Some}
use Rattle.std.specs.Prelude.{slice_get}
use Rattle.sdv_graph.specs.Path.{Point}
use Rattle.sdv_run.specs.Announced.{announced_at}
use Rattle.sdv_run.proofs.graph_run.most_announced.Given as goal

-- none of the points so far announces more
abbrev pub invariant-loop-number : goal.invariant-loop-number
invariant-loop-number l =
    (i : ℕ) (p : Point) → i < l.number → slice_get l.graph.points i ≡ Some p → announced_at p.action ≤ l.most
