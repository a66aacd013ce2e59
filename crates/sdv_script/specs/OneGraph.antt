-- The graph of a script, and what it means that a script has one graph.
use Rattle.std.specs.Prelude.{◌≡◌}
use Rattle.sdv_graph.specs.Graph.{Graph}
use Rattle.sdv_graph.specs.GraphOf.{IsGraphOf}
use Rattle.sdv_script.specs.Lines.{statement_lines}
use Rattle.sdv_script.specs.Script.{Parsed}

-- the graph of its statements, with the lines on which they begin
abbrev pub IsGraphOfScript : Parsed → Graph → Type 0
IsGraphOfScript s g = IsGraphOf s.names s.body (statement_lines s) g

-- it has a graph, and no other one
pub record HasOneGraph (s : Parsed) : Type 0 where
  pub graph : Graph
  pub is_graph : IsGraphOfScript s graph
  pub only : (g : Graph) → IsGraphOfScript s g → g ≡ graph
