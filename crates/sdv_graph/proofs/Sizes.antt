-- The size of a part of a script: more than that of each part in it, and by two more than that of two blocks in it.
use Rattle.std.proofs.Common.{ℕ, ◌+◌}
use Rattle.sdv_graph.specs.Tree.{Statements, nothing, first, Ways, otherwise, way, Statement, send, phase, setting, choice, set, clear, bus_lines, turns, break, done, fault}

abbrev mutual
  pub statements_size : Statements → ℕ
  statements_size nothing = 1
  statements_size (first s rest) = 1 + statement_size s + statements_size rest

  pub ways_size : Ways → ℕ
  ways_size (otherwise b) = 1 + statements_size b
  ways_size (way guards b rest) = 1 + statements_size b + ways_size rest

  pub statement_size : Statement → ℕ
  statement_size (send c ways) = 1 + ways_size ways
  statement_size (phase p a b) = 2 + statements_size a + statements_size b
  statement_size (setting l) = 1
  statement_size (choice c a b) = 2 + statements_size a + statements_size b
  statement_size (set f) = 1
  statement_size (clear f) = 1
  statement_size (bus_lines width) = 1
  statement_size (turns n a b) = 2 + statements_size a + statements_size b
  statement_size break = 1
  statement_size done = 1
  statement_size (fault name) = 1
