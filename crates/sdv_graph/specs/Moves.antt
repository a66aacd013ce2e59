-- How many moves a run through a part of a script has at most, each loop taken as often as it may be.
use Rattle.std.specs.Prelude.{ℕ, ◌+◌, ◌*◌}
use Rattle.sdv_graph.specs.Tree.{Statements, nothing, first, Ways, otherwise, way, Statement, send, phase, setting, choice, set, clear, bus_lines, turns, break, done, fault}

abbrev mutual
  pub statements_moves : Statements → ℕ
  statements_moves nothing = 0
  statements_moves (first s rest) = statement_moves s + statements_moves rest

  pub ways_moves : Ways → ℕ
  ways_moves (otherwise b) = statements_moves b
  ways_moves (way guards b rest) = statements_moves b + ways_moves rest

  pub statement_moves : Statement → ℕ
  statement_moves (send c ways) = 1 + ways_moves ways
  statement_moves (phase p a b) = 1 + (statements_moves a + statements_moves b)
  statement_moves (setting l) = 1
  statement_moves (choice c a b) = 1 + (statements_moves a + statements_moves b)
  statement_moves (set f) = 1
  statement_moves (clear f) = 1
  statement_moves (bus_lines width) = 1
  -- a turn is a move at the head and those of the body; a turn may be left in the middle
  statement_moves (turns n a b) = 1 + (n * (1 + statements_moves a) + statements_moves a + statements_moves b)
  statement_moves break = 1
  statement_moves done = 1
  statement_moves (fault name) = 1
