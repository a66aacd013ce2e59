-- The POINTS of a script: each statement is one, numbered from 0 in the order of the statements' first tokens. The
-- point of a loop is its head, reached on entry and after each turn.
use Rattle.std.specs.Prelude.{ℕ, ◌+◌, ◌-◌, List, [], ◌∷◌, ◌++◌, true, false, Option, Some, None}
use Rattle.sdv_graph.specs.declared.graph.Target.{Target}
use Rattle.sdv_graph.specs.Tree.{Statements, nothing, first, Ways, otherwise, way, Statement, send, phase, setting, choice, set, clear, bus_lines, turns, break, done, fault}
use Rattle.sdv_graph.specs.Counts.{statements_count, statement_count}
use Rattle.sdv_graph.specs.Walk.{Finished, Failed}
use Rattle.sdv_graph.specs.Path.{Case, Action, Point, sends, phases, lets, tests, flags, widths, heads, jumps, stops}

-- TARGETS

-- a loop is entered with all its turns
abbrev pub turns_of : Statement → Option ℕ
turns_of (turns n a b) = Some n
turns_of s = None

-- to a statement from before it
abbrev pub start_of : Statement → ℕ → Target
start_of s at = record { to = at; leave = 0; enter = turns_of s }

-- to the first statement of a list, or to what follows where it has none
abbrev pub entry : Statements → ℕ → Target → Target
entry nothing at next = next
entry (first s rest) at next = start_of s at

-- the same place, seen from inside one more loop
abbrev pub outside : Target → Target
outside t = record { to = t.to; leave = t.leave + 1; enter = t.enter }

-- back to the head of a loop, from its body
abbrev pub again : ℕ → Target
again at = record { to = at; leave = 0; enter = None }

-- each case leads to its own block
abbrev pub cases_of : Ways → ℕ → Target → List Case
cases_of (otherwise b) at next = []
cases_of (way guards b rest) at next = record { guards = guards; target = entry b at next } ∷ cases_of rest
    (at + statements_count b) next

-- and `else` to the last one
abbrev pub other_of : Ways → ℕ → Target → Target
other_of (otherwise b) at next = entry b at next
other_of (way guards b rest) at next = other_of rest (at + statements_count b) next

-- POINTS, from a number on: `next` is where the end of a list leads, `brk` where a `break` leads, and `most` the most
-- turns left of the loops round it

abbrev pub point_with : Action → List ℕ → Point
point_with action most = record { action = action; most = most }

abbrev mutual
  pub points_of_statements : Statements → ℕ → (next brk : Target) → List ℕ → List Point
  points_of_statements nothing at next brk most = []
  points_of_statements (first s rest) at next brk most =
      points_of_statement s at (entry rest (at + statement_count s) next) brk most
      ++ points_of_statements rest (at + statement_count s) next brk most

  pub points_of_ways : Ways → ℕ → (next brk : Target) → List ℕ → List Point
  points_of_ways (otherwise b) at next brk most = points_of_statements b at next brk most
  points_of_ways (way guards b rest) at next brk most =
      points_of_statements b at next brk most ++ points_of_ways rest (at + statements_count b) next brk most

  pub points_of_statement : Statement → ℕ → (next brk : Target) → List ℕ → List Point
  points_of_statement (send c ways) at next brk most =
      point_with (sends c (cases_of ways (at + 1) next) (other_of ways (at + 1) next)) most ∷ points_of_ways ways
      (at + 1) next brk most
  points_of_statement (phase p a b) at next brk most =
      point_with (phases p (entry a (at + 1) next) (entry b (at + 1 + statements_count a) next)) most
      ∷ (points_of_statements a (at + 1) next brk most ++ points_of_statements b
      (at + 1 + statements_count a) next brk most)
  points_of_statement (setting l) at next brk most = point_with (lets l next) most ∷ []
  points_of_statement (choice c a b) at next brk most =
      point_with (tests c (entry a (at + 1) next) (entry b (at + 1 + statements_count a) next)) most
      ∷ (points_of_statements a (at + 1) next brk most ++ points_of_statements b
      (at + 1 + statements_count a) next brk most)
  points_of_statement (set f) at next brk most = point_with (flags f true next) most ∷ []
  points_of_statement (clear f) at next brk most = point_with (flags f false next) most ∷ []
  points_of_statement (bus_lines width) at next brk most = point_with (widths width next) most ∷ []
  -- a body's end leads back to the head; the else block stands outside the loop
  points_of_statement (turns n a b) at next brk most =
      point_with (heads n (entry a (at + 1) (again at)) (outside (entry b (at + 1 + statements_count a) next)))
      (n ∷ most)
      ∷ (points_of_statements a (at + 1) (again at) (outside next) ((n - 1) ∷ most)
      ++ points_of_statements b (at + 1 + statements_count a) next brk most)
  points_of_statement break at next brk most = point_with (jumps brk) most ∷ []
  points_of_statement done at next brk most = point_with (stops Finished) most ∷ []
  points_of_statement (fault name) at next brk most = point_with (stops (Failed name)) most ∷ []

-- past the last point
abbrev pub past : Statements → Target
past script = record { to = statements_count script; leave = 0; enter = None }

abbrev pub points_of : Statements → List Point
points_of script = points_of_statements script 0 (past script) (past script) []

-- where a run begins
abbrev pub first_of : Statements → Target
first_of script = entry script 0 (past script)
