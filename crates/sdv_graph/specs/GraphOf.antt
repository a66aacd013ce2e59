-- When a graph is the GRAPH OF A SCRIPT: its paths are the script's walks, each run over it ends, and its loops are
-- nested as its targets say.
use Rattle.std.specs.Prelude.{◌≡◌, ℕ, ◌<◌, ◌≤◌, ◌^◌, List, true, false, length}
use Rattle.sdv_registers.specs.declared.kind.Kind.{Kind}
use Rattle.sdv_graph.specs.Tree.{Statements, Declared}
use Rattle.sdv_graph.specs.Counts.{statements_break, statements_fall, statements_count, max_statements}
use Rattle.sdv_graph.specs.Points.{points_of, first_of}
use Rattle.sdv_graph.specs.Begins.{BeginWithReset, begins}
use Rattle.sdv_graph.specs.Graph.{Graph, begin, HasWalks, EachRunEnds}
use Rattle.sdv_graph.specs.Moves.{statements_moves}
use Rattle.sdv_graph.specs.Nested.{Nested}
use Rattle.sdv_graph.specs.Path.{Path}
use Rattle.sdv_graph.specs.Limits.{all_keep_limits}
use Rattle.sdv_graph.specs.Suits.{all_suit}

-- what the rules of scripts say of statements, as far as their graph needs it: no `break` stands outside a loop, no run
-- falls off the end, statements and moves are few enough to be counted, and each point keeps the limits
pub record CanRun (script : Statements) : Type 0 where
  pub inside : statements_break script ≡ false
  pub ends : statements_fall script ≡ false
  pub few : statements_count script ≤ max_statements
  pub moves : statements_moves script < 2 ^ 128
  pub limits : all_keep_limits (points_of script) ≡ true

-- and of the statements of a script for cards of a kind: at each point guards and registers suit the kind
abbrev pub SuitsKind : Kind → Statements → Type 0
SuitsKind k script = all_suit k (points_of script) ≡ true

-- what is true of every graph
pub record IsSound (g : Graph) : Type 0 where
  pub ends : EachRunEnds g
  pub nested : Nested g
  pub limits : all_keep_limits g.points ≡ true
  pub suits : all_suit g.kind g.points ≡ true
  -- each point has a line
  pub located : length g.lines ≡ length g.points
  -- where it says so, each path begins with CMD0
  pub begun : g.begins ≡ true → BeginWithReset g.kind (λ e es. Path g.kind g.points e (begin g) es)

-- the graph of these statements, which stand on these lines
pub record IsGraphOf (names : Declared) (script : Statements) (lines : List ℕ) (g : Graph) : Type 0 where
  pub kind_same : g.kind ≡ names.kind
  pub names_same : g.names ≡ names
  pub numbers_same : g.numbers ≡ length names.numbers
  pub flags_same : g.flags ≡ length names.flags
  -- one point for each statement, in the order of their first tokens
  pub points_same : g.points ≡ points_of script
  -- the line of each point is that of its statement
  pub lines_same : g.lines ≡ lines
  pub first_same : g.first ≡ first_of script
  pub steps_same : g.steps ≡ statements_moves script
  pub begins_same : g.begins ≡ begins names.kind script
  -- the walks are the paths
  pub walks : HasWalks names script g
  pub sound : IsSound g
