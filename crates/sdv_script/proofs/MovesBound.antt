-- A run of a script within the limits has less than 2^128 moves.
use Rattle.std.proofs.Common.{◌≡◌, ℕ, zero, suc, ◌+◌, ◌*◌, ◌<◌, ◌≤◌, ◌^◌, refl, arith, add-mul, one-mul, mul_comm, lit≤, Option}
use Rattle.std.proofs.lemmas.Nat.{mul-le}
use Rattle.sdv_card.specs.declared.command.Order.{Order}
use Rattle.sdv_card.specs.CommandTable.{order_of}
use Rattle.sdv_graph.specs.Tree.{Statements, nothing, first, Ways, otherwise, way, Statement, send, phase, setting, choice, set, clear, bus_lines, turns, break, done, fault, Declared}
use Rattle.sdv_script.specs.declared.depth.Depth.{Depth}
use Rattle.sdv_script.specs.Rules.{StatementsFit, WaysFit, StatementFits, ScriptFits, statements_count, ways_count, statement_count, deeper, in_loop}
use Rattle.sdv_graph.specs.Moves.{statements_moves, ways_moves, statement_moves}

-- the moves of one statement, in so many more loops
power : ℕ → ℕ
power zero = 1
power (suc r) = 65536 * power r

power_pos : (r : ℕ) → 1 ≤ power r
unfolding power
power_pos zero = lit≤ tt
power_pos (suc r) = let p = power_pos r in omega arith

-- two parts
both : (a b m n p : ℕ) → a ≤ m * p → b ≤ n * p → a + b ≤ (m + n) * p
both a b m n p x y = let e = add-mul m n p in omega arith

-- and a statement round them
with_one : (a m p : ℕ) → 1 ≤ p → a ≤ m * p → 1 + a ≤ (1 + m) * p
with_one a m p one x = let e = add-mul 1 m p in let f = one-mul p in omega arith

alone : (p : ℕ) → 1 ≤ p → 1 ≤ 1 * p
alone p one = let f = one-mul p in omega arith

of_loop : (n a b m k q : ℕ) → n ≤ 65535 → 1 ≤ q → a ≤ m * q → b ≤ k * (65536 * q) → 1 + (n * (1 + a) + a + b) ≤ (1 + (m + k)) * (65536 * q)
of_loop n a b m k q le one x y =
    let turns : n * (1 + a) ≤ 65535 * (1 + a) = mul-le n (1 + a) 65535 (1 + a) le (omega arith) in
    let bodies : 65536 * a ≤ 65536 * (m * q) = mul-le 65536 a 65536 (m * q) (omega arith) x in
    let same : 65536 * (m * q) ≡ m * (65536 * q) = grind (arith, mul_comm) in
    let e = add-mul 1 (m + k) (65536 * q) in
    let f = add-mul m k (65536 * q) in
    let i = one-mul (65536 * q) in
    omega arith

loop_bound : (n a b m k r : ℕ) → n ≤ 65535 → a ≤ m * power r → b ≤ k * power (suc r) → 1 + (n * (1 + a) + a + b) ≤ (1 + (m + k)) * power (suc r)
unfolding power
loop_bound n a b m k r le x y = of_loop n a b m k (power r) le (power_pos r) x y

mutual
  statements_bound : (names : Declared) (d : Depth) (r : ℕ) (b : Statements) → d.loops + r ≡ 4 → StatementsFit names d b
      → statements_moves b ≤ statements_count b * power r
  statements_bound names d r nothing z fit = omega arith
  statements_bound names d r (first s rest) z fit = both (statement_moves s) (statements_moves rest) (statement_count s) (statements_count rest) (power r)
      (statement_bound names d r s z fit.0) (statements_bound names d r rest z fit.1)

  ways_bound : (names : Declared) (d : Depth) (r : ℕ) (order : Option Order) (c : Ways) → d.loops + r ≡ 4 → WaysFit names d order c
      → ways_moves c ≤ ways_count c * power r
  ways_bound names d r order (otherwise b) z fit = statements_bound names (deeper d) r b z fit.1
  ways_bound names d r order (way guards b rest) z fit =
      both (statements_moves b) (ways_moves rest) (statements_count b) (ways_count rest) (power r) (statements_bound names (deeper d) r b z fit.2)
      (ways_bound names d r order rest z fit.3)

  statement_bound : (names : Declared) (d : Depth) (r : ℕ) (s : Statement) → d.loops + r ≡ 4 → StatementFits names d s
      → statement_moves s ≤ statement_count s * power r
  statement_bound names d r (send c ways) z fit = with_one (ways_moves ways) (ways_count ways) (power r) (power_pos r)
      (ways_bound names (deeper d) r (order_of names.kind c.ask) ways z fit.2)
  statement_bound names d r (phase p a b) z fit = with_one (statements_moves a + statements_moves b) (statements_count a + statements_count b) (power r)
      (power_pos r) (both (statements_moves a) (statements_moves b) (statements_count a) (statements_count b) (power r)
      (statements_bound names (deeper (deeper d)) r a z fit.2) (statements_bound names (deeper (deeper d)) r b z fit.3))
  statement_bound names d r (setting l) z fit = alone (power r) (power_pos r)
  statement_bound names d r (choice c a b) z fit = with_one (statements_moves a + statements_moves b) (statements_count a + statements_count b) (power r)
      (power_pos r) (both (statements_moves a) (statements_moves b) (statements_count a) (statements_count b) (power r)
      (statements_bound names (deeper d) r a z fit.2) (statements_bound names (deeper d) r b z fit.3))
  statement_bound names d r (set f) z fit = alone (power r) (power_pos r)
  statement_bound names d r (clear f) z fit = alone (power r) (power_pos r)
  statement_bound names d r (bus_lines width) z fit = alone (power r) (power_pos r)
  statement_bound names d zero (turns n a b) z fit = absurd (omega (arith, z, fit.2))
  statement_bound names d (suc r) (turns n a b) z fit =
      loop_bound n (statements_moves a) (statements_moves b) (statements_count a) (statements_count b) r fit.1
      (statements_bound names (deeper (in_loop d)) r a (omega (arith, z)) fit.4) (statements_bound names (deeper d) (suc r) b z fit.5)
  statement_bound names d r break z fit = alone (power r) (power_pos r)
  statement_bound names d r done z fit = alone (power r) (power_pos r)
  statement_bound names d r (fault name) z fit = alone (power r) (power_pos r)

pub few_moves : (names : Declared) (b : Statements) → ScriptFits names b → statements_moves b < 2 ^ 128
unfolding power
few_moves names b fits =
    let l = statements_bound names (record { braces = 0; loops = 0 }) 4 b refl fits.statements_fit in
    let m = mul-le (statements_count b) (power 4) 4096 (power 4) fits.few (omega arith) in
    omega (arith, l, m)
