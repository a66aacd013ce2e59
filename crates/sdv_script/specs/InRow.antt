-- Statements in a row before others.
use Rattle.std.specs.Prelude.{List, [], ◌∷◌}
use Rattle.sdv_graph.specs.Tree.{Statements, Statement, first}

abbrev pub in_row : List Statement → Statements → Statements
in_row [] others = others
in_row (s ∷ ss) others = first s (in_row ss others)
