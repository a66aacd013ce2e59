-- The greatest numbers of commands on the ways through a part of a script, by its syntax alone.
use Rattle.std.specs.Prelude.{ℕ, ◌+◌, ◌-◌, ◌*◌, max, Option, Some, None}
use Rattle.sdv_graph.specs.Tree.{Statements, nothing, first, Ways, otherwise, way, Statement, send, phase, setting, choice, set, clear, bus_lines, turns, break, done, fault}
use Rattle.sdv_certify.specs.declared.spans.Spans.{Spans}

-- NO WAY, or the greatest number of commands on a way

abbrev pub plus : Option ℕ → Option ℕ → Option ℕ
plus None p = None
plus (Some m) None = None
plus (Some m) (Some n) = Some (m + n)

abbrev pub most : Option ℕ → Option ℕ → Option ℕ
most None p = p
most (Some m) None = Some m
most (Some m) (Some n) = Some (max m n)

abbrev pub or_zero : Option ℕ → ℕ
or_zero None = 0
or_zero (Some n) = n

-- OF THE WAYS THROUGH A PART: to its end, to a `break`, and to the end of the run

abbrev pub spans : (on leave stop : Option ℕ) → Spans
spans on leave stop = record { on = on; leave = leave; stop = stop }

-- one part, and then another
abbrev pub seq : Spans → Spans → Spans
seq u v = spans (plus u.on v.on) (most u.leave (plus u.on v.leave)) (most u.stop (plus u.on v.stop))

abbrev pub either : Spans → Spans → Spans
either u v = spans (most u.on v.on) (most u.leave v.leave) (most u.stop v.stop)

-- so many commands before a part
abbrev pub later : ℕ → Spans → Spans
later n u = spans (plus (Some n) u.on) (plus (Some n) u.leave) (plus (Some n) u.stop)

-- a way that leaves a loop's body: behind the loop, or to the end of the run
abbrev pub way_out : Spans → Spans
way_out u = spans u.leave None u.stop

-- all turns of a loop and then its else block, or a way out of the body in the last turn
abbrev pub all_turns : ℕ → (body other : Spans) → Spans
all_turns n u v = either (later (n * or_zero u.on) v) (later ((n - 1) * or_zero u.on) (way_out u))

-- the most commands on any of them
abbrev pub longest : Spans → ℕ
longest u = max (or_zero u.on) (max (or_zero u.leave) (or_zero u.stop))

abbrev mutual
  pub spans_statements : Statements → Spans
  spans_statements nothing = spans (Some 0) None None
  spans_statements (first s rest) = seq (spans_statement s) (spans_statements rest)

  pub spans_ways : Ways → Spans
  spans_ways (otherwise b) = spans_statements b
  spans_ways (way guards b rest) = either (spans_statements b) (spans_ways rest)

  pub spans_statement : Statement → Spans
  spans_statement (send c ways) = later 1 (spans_ways ways)
  spans_statement (phase p a b) = either (spans_statements a) (spans_statements b)
  spans_statement (setting l) = spans (Some 0) None None
  spans_statement (choice c a b) = either (spans_statements a) (spans_statements b)
  spans_statement (set f) = spans (Some 0) None None
  spans_statement (clear f) = spans (Some 0) None None
  spans_statement (bus_lines width) = spans (Some 0) None None
  spans_statement (turns n a b) = all_turns n (spans_statements a) (spans_statements b)
  spans_statement break = spans None (Some 0) None
  spans_statement done = spans None None (Some 0)
  spans_statement (fault name) = spans None None (Some 0)
