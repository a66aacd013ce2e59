-- Each loop of a part of a script has a turn.
use Rattle.std.specs.Prelude.{◌≤◌}
use Rattle.sdv_graph.specs.Tree.{Statements, nothing, first, Ways, otherwise, way, Statement, send, phase, setting, choice, set, clear, bus_lines, turns, break, done, fault}

abbrev mutual
  pub StatementsTurn : Statements → Type 0
  StatementsTurn nothing = Unit {0}
  StatementsTurn (first s rest) = StatementTurns s × StatementsTurn rest

  pub WaysTurn : Ways → Type 0
  WaysTurn (otherwise b) = StatementsTurn b
  WaysTurn (way guards b rest) = StatementsTurn b × WaysTurn rest

  pub StatementTurns : Statement → Type 0
  StatementTurns (send c ways) = WaysTurn ways
  StatementTurns (phase p a b) = StatementsTurn a × StatementsTurn b
  StatementTurns (setting l) = Unit {0}
  StatementTurns (choice c a b) = StatementsTurn a × StatementsTurn b
  StatementTurns (set f) = Unit {0}
  StatementTurns (clear f) = Unit {0}
  StatementTurns (bus_lines width) = Unit {0}
  StatementTurns (turns n a b) = (1 ≤ n) × StatementsTurn a × StatementsTurn b
  StatementTurns break = Unit {0}
  StatementTurns done = Unit {0}
  StatementTurns (fault name) = Unit {0}
