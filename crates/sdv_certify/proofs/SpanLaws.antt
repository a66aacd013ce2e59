-- No way through a part has more commands than moves.
use Rattle.std.proofs.Common.{ℕ, ◌+◌, ◌-◌, ◌*◌, ◌≤◌, max, Option, Some, None, arith}
use Rattle.std.proofs.Math.Nat.{mul-le-mul_left, mul-le-mul_right}
use Rattle.sdv_graph.specs.Tree.{Statements, nothing, first, Ways, otherwise, way, Statement, send, phase, setting, choice, set, clear, bus_lines, turns, break, done, fault}
use Rattle.sdv_graph.specs.Moves.{statements_moves, ways_moves, statement_moves}
use Rattle.sdv_certify.specs.declared.spans.Spans.{Spans}
use Rattle.sdv_certify.specs.Spans.{plus, most, or_zero, seq, either, later, way_out, all_turns, longest, spans_statements, spans_ways, spans_statement}

plus_at_most : (o p : Option ℕ) → or_zero (plus o p) ≤ or_zero o + or_zero p
plus_at_most None p = omega arith
plus_at_most (Some m) None = omega arith
plus_at_most (Some m) (Some n) = omega arith

most_at_most : (o p : Option ℕ) → or_zero (most o p) ≤ max (or_zero o) (or_zero p)
most_at_most None p = omega arith
most_at_most (Some m) None = omega arith
most_at_most (Some m) (Some n) = omega arith

longest_seq : (u v : Spans) → longest (seq u v) ≤ longest u + longest v
longest_seq u v = omega (
  arith,
  plus_at_most u.on v.on,
  plus_at_most u.on v.leave,
  plus_at_most u.on v.stop,
  most_at_most u.leave (plus u.on v.leave),
  most_at_most u.stop (plus u.on v.stop),
)

longest_either : (u v : Spans) → longest (either u v) ≤ max (longest u) (longest v)
longest_either u v = omega (arith, most_at_most u.on v.on, most_at_most u.leave v.leave, most_at_most u.stop v.stop)

longest_later : (n : ℕ) (u : Spans) → longest (later n u) ≤ n + longest u
longest_later n u = omega (arith, plus_at_most (Some n) u.on, plus_at_most (Some n) u.leave, plus_at_most (Some n) u.stop)

pub each_at_most : (n : ℕ) (u : Spans) → n * or_zero u.on ≤ n * longest u
each_at_most n u = let e : or_zero u.on ≤ longest u = omega arith in mul-le-mul_left n e

pub fewer : (n c : ℕ) → (n - 1) * c ≤ n * c
fewer n c = let e : n - 1 ≤ n = omega arith in mul-le-mul_right c e

longest_turns : (n : ℕ) (u v : Spans) → longest (all_turns n u v) ≤ n * longest u + longest u + longest v
longest_turns n u v =
    let a = later (n * or_zero u.on) v in
    let b = later ((n - 1) * or_zero u.on) (way_out u) in
    omega (
      arith,
      longest_either a b,
      longest_later (n * or_zero u.on) v,
      longest_later ((n - 1) * or_zero u.on) (way_out u),
      each_at_most n u,
      fewer n (or_zero u.on),
    )

mutual
  pub longest_statements : (b : Statements) → longest (spans_statements b) ≤ statements_moves b
  longest_statements nothing = omega arith
  longest_statements (first s rest) =
      omega (arith, longest_seq (spans_statement s) (spans_statements rest), longest_statement s, longest_statements rest)

  pub longest_ways : (c : Ways) → longest (spans_ways c) ≤ ways_moves c
  longest_ways (otherwise b) = longest_statements b
  longest_ways (way guards b rest) =
      omega (arith, longest_either (spans_statements b) (spans_ways rest), longest_statements b, longest_ways rest)

  pub longest_statement : (s : Statement) → longest (spans_statement s) ≤ statement_moves s
  longest_statement (send c ways) = omega (arith, longest_later 1 (spans_ways ways), longest_ways ways)
  longest_statement (phase p a b) = omega (arith, longest_either (spans_statements a) (spans_statements b), longest_statements a, longest_statements b)
  longest_statement (setting l) = omega arith
  longest_statement (choice c a b) = omega (arith, longest_either (spans_statements a) (spans_statements b), longest_statements a, longest_statements b)
  longest_statement (set f) = omega arith
  longest_statement (clear f) = omega arith
  longest_statement (bus_lines width) = omega arith
  longest_statement (turns n a b) =
      let t = longest_turns n (spans_statements a) (spans_statements b) in
      let l = longest_statements a in
      let e : longest (spans_statements a) ≤ 1 + statements_moves a = omega (arith, l) in
      omega (arith, t, mul-le-mul_left n e, l, longest_statements b)
  longest_statement break = omega arith
  longest_statement done = omega arith
  longest_statement (fault name) = omega arith
