-- The LIMITS of scripts that their graphs keep too, how many statements there are, and where a run can fall through.
use Rattle.std.specs.Prelude.{ℕ, ◌+◌, ◌^◌, Bool, true, false, ◌&&◌, ◌||◌}
use Rattle.sdv_graph.specs.Tree.{Statements, nothing, first, Ways, otherwise, way, Statement, send, phase, setting, choice, set, clear, bus_lines, turns, break, done, fault}

-- the greatest number that a script may write
abbrev pub max_number : ℕ
max_number = 2 ^ 40

abbrev pub max_statements : ℕ
max_statements = 4096

abbrev pub max_name : ℕ
max_name = 16

abbrev pub max_flags : ℕ
max_flags = 4

abbrev pub max_loops : ℕ
max_loops = 4

-- how many statements there are
abbrev mutual
  pub statements_count : Statements → ℕ
  statements_count nothing = 0
  statements_count (first s rest) = statement_count s + statements_count rest

  pub ways_count : Ways → ℕ
  ways_count (otherwise b) = statements_count b
  ways_count (way gs b rest) = statements_count b + ways_count rest

  pub statement_count : Statement → ℕ
  statement_count (send c ways) = 1 + ways_count ways
  statement_count (phase p a b) = 1 + (statements_count a + statements_count b)
  statement_count (setting l) = 1
  statement_count (choice c a b) = 1 + (statements_count a + statements_count b)
  statement_count (set f) = 1
  statement_count (clear f) = 1
  statement_count (bus_lines width) = 1
  statement_count (turns n a b) = 1 + (statements_count a + statements_count b)
  statement_count break = 1
  statement_count done = 1
  statement_count (fault name) = 1

-- FALLING THROUGH: whether a run can come to what follows

-- whether a list has a `break` of the loop round it
abbrev mutual
  pub statements_break : Statements → Bool
  statements_break nothing = false
  statements_break (first s rest) = statement_breaks s || statements_break rest

  pub ways_break : Ways → Bool
  ways_break (otherwise b) = statements_break b
  ways_break (way gs b rest) = statements_break b || ways_break rest

  pub statement_breaks : Statement → Bool
  statement_breaks (send c ways) = ways_break ways
  statement_breaks (phase p a b) = statements_break a || statements_break b
  statement_breaks (setting l) = false
  statement_breaks (choice c a b) = statements_break a || statements_break b
  statement_breaks (set f) = false
  statement_breaks (clear f) = false
  statement_breaks (bus_lines width) = false
  statement_breaks (turns n a b) = statements_break b
  statement_breaks break = true
  statement_breaks done = false
  statement_breaks (fault name) = false

abbrev mutual
  -- a list falls through if each of its statements does
  pub statements_fall : Statements → Bool
  statements_fall nothing = true
  statements_fall (first s rest) = statement_falls s && statements_fall rest

  pub ways_fall : Ways → Bool
  ways_fall (otherwise b) = statements_fall b
  ways_fall (way gs b rest) = statements_fall b || ways_fall rest

  pub statement_falls : Statement → Bool
  statement_falls (send c ways) = ways_fall ways
  statement_falls (phase p a b) = statements_fall a || statements_fall b
  statement_falls (setting l) = true
  statement_falls (choice c a b) = statements_fall a || statements_fall b
  statement_falls (set f) = true
  statement_falls (clear f) = true
  statement_falls (bus_lines width) = true
  statement_falls (turns n a b) = statements_fall b || statements_break a
  statement_falls break = false
  statement_falls done = false
  statement_falls (fault name) = false
