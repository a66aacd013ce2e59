-- A script has one graph.
use Rattle.sdv_graph.proofs.GraphOf.{graph_of_body, only_graph, is_graph_of}
use Rattle.sdv_script.specs.Lines.{statement_lines}
use Rattle.sdv_script.specs.Script.{Parsed, IsScript}
use Rattle.sdv_script.specs.OneGraph.{HasOneGraph}
use Rattle.sdv_script.proofs.GraphOf.{can_run, suits_kind}
use Rattle.sdv_script.proofs.HeadsFound.{each_has_line}

pub one_graph_lem : (s : Parsed) → IsScript s → HasOneGraph s
one_graph_lem s is = record {
  graph = graph_of_body s.names s.body (statement_lines s);
  is_graph = is_graph_of s.names s.body (statement_lines s) (can_run s.names s.body is.fits) (suits_kind s.names s.body is.fits) (each_has_line s is);
  only = λ g of. only_graph s.names s.body (statement_lines s) g of;
}
