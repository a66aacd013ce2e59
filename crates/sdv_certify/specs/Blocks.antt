-- The blocks of the cases of a command, in their order.
use Rattle.std.specs.Prelude.{List, [], ◌∷◌}
use Rattle.sdv_graph.specs.Tree.{Statements, Ways, otherwise, way}

abbrev pub blocks_of : Ways → List Statements
blocks_of (otherwise b) = b ∷ []
blocks_of (way guards b rest) = b ∷ blocks_of rest
