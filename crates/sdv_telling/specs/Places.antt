-- The PLACE of a point: the line of the text on which its statement begins.
use Rattle.std.specs.Prelude.{ℕ, get_or}
use Rattle.sdv_graph.specs.Graph.{Graph}

abbrev pub line_at : Graph → ℕ → ℕ
line_at g number = get_or g.lines number 0
