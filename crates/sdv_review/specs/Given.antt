-- THE MOST BLOCKS that a run gives, by the statements alone. A command that begins a write counts the blocks that it
-- announces, since a write phase needs a command of its own. Of the ways of a statement the one with the most counts, and
-- a loop counts for each of its turns.
use Rattle.std.specs.Prelude.{ℕ, ◌+◌, ◌*◌, max, if◌then◌else◌}
use Rattle.sdv_card.specs.declared.event.Ask.{Ask}
use Rattle.sdv_graph.specs.Tree.{Statements, nothing, first, Ways, otherwise, way, Statement, send, phase, setting, choice, set, clear, bus_lines, turns, break, done, fault}
use Rattle.sdv_review.specs.Statuses.{is_write}

abbrev pub announced_by : Ask → ℕ
announced_by ask = if is_write ask then ask.count else 0

abbrev mutual
  pub most_of_statements : Statements → ℕ
  most_of_statements nothing = 0
  most_of_statements (first s rest) = most_of_statement s + most_of_statements rest

  pub most_of_ways : Ways → ℕ
  most_of_ways (otherwise b) = most_of_statements b
  most_of_ways (way guards b rest) = max (most_of_statements b) (most_of_ways rest)

  pub most_of_statement : Statement → ℕ
  most_of_statement (send c ways) = announced_by c.ask + most_of_ways ways
  most_of_statement (phase p a b) = max (most_of_statements a) (most_of_statements b)
  most_of_statement (setting l) = 0
  most_of_statement (choice c a b) = max (most_of_statements a) (most_of_statements b)
  most_of_statement (set f) = 0
  most_of_statement (clear f) = 0
  most_of_statement (bus_lines width) = 0
  most_of_statement (turns n a b) = n * most_of_statements a + most_of_statements b
  most_of_statement break = 0
  most_of_statement done = 0
  most_of_statement (fault name) = 0
