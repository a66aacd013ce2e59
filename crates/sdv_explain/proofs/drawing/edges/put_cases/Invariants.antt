use Rattle.std.proofs.Common.{◌≡◌, ◌++◌, drop, flat_map, map}
use Rattle.sdv_graph.specs.Graph.{seen_case}
use Rattle.sdv_explain.specs.Drawing.{case_line, look_of}
use Rattle.sdv_explain.proofs.drawing.edges.put_cases.Given as goal

-- what is written, and what is still to be, are all
abbrev pub invariant-loop-case : goal.invariant-loop-case
invariant-loop-case l =
    l.text.items ++ flat_map (case_line (look_of l.look) l.from) (map seen_case (drop l.case-index l.cases))
    ≡ l.fn.text.items ++ flat_map (case_line (look_of l.look) l.from) (map seen_case l.cases)
