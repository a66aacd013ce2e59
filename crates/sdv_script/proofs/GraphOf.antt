-- A script that fits the rules can be run.
use Rattle.std.proofs.Common.{◌≡◌, refl, arith, Bool, true, false, Option}
use Rattle.std.specs.Prelude.{◌||◌}
use Rattle.sdv_card.specs.declared.command.Order.{Order}
use Rattle.sdv_card.specs.CommandTable.{order_of}
use Rattle.sdv_graph.specs.Tree.{Statements, nothing, first, Ways, otherwise, way, Statement, send, phase, setting, choice, set, clear, bus_lines, turns, break, done, fault, Declared}
use Rattle.sdv_script.specs.declared.depth.Depth.{Depth}
use Rattle.sdv_script.specs.Rules.{StatementsFit, WaysFit, StatementFits, ScriptFits, statements_break, ways_break, statement_breaks, deeper}
use Rattle.sdv_graph.specs.GraphOf.{CanRun, SuitsKind}
use Rattle.sdv_script.proofs.MovesBound.{few_moves}
use Rattle.sdv_script.proofs.PointLimits.{points_keep_limits}
use Rattle.sdv_script.proofs.PointSuits.{points_suit}
pub use Rattle.sdv_graph.proofs.GraphOf.{parts, graph_of_body, graph_is, only_graph, sound, is_graph_of}

neither : (a b : Bool) → a ≡ false → b ≡ false → a || b ≡ false
neither true b p q = absurd (cc)
neither false b p q = q

-- no `break` stands outside a loop
mutual
  no_break : (names : Declared) (d : Depth) (b : Statements) → d.loops ≡ 0 → StatementsFit names d b → statements_break b ≡ false
  no_break names d nothing z fit = refl
  no_break names d (first s rest) z fit = neither (statement_breaks s) (statements_break rest) (no_break_first names d s z fit.0)
      (no_break names d rest z fit.1)

  no_break_ways : (names : Declared) (d : Depth) (order : Option Order) (c : Ways) → d.loops ≡ 0 → WaysFit names d order c → ways_break c ≡ false
  no_break_ways names d order (otherwise b) z fit = no_break names (deeper d) b z fit.1
  no_break_ways names d order (way guards b rest) z fit =
      neither (statements_break b) (ways_break rest) (no_break names (deeper d) b z fit.2) (no_break_ways names d order rest z fit.3)

  no_break_first : (names : Declared) (d : Depth) (s : Statement) → d.loops ≡ 0 → StatementFits names d s → statement_breaks s ≡ false
  no_break_first names d (send c ways) z fit = no_break_ways names (deeper d) (order_of names.kind c.ask) ways z fit.2
  no_break_first names d (phase p a b) z fit = neither (statements_break a) (statements_break b) (no_break names (deeper (deeper d)) a z fit.2)
      (no_break names (deeper (deeper d)) b z fit.3)
  no_break_first names d (setting l) z fit = refl
  no_break_first names d (choice c a b) z fit = neither (statements_break a) (statements_break b) (no_break names (deeper d) a z fit.2)
      (no_break names (deeper d) b z fit.3)
  no_break_first names d (set f) z fit = refl
  no_break_first names d (clear f) z fit = refl
  no_break_first names d (bus_lines width) z fit = refl
  no_break_first names d (turns n a b) z fit = no_break names (deeper d) b z fit.5
  no_break_first names d break z fit = absurd (omega (arith, z, fit))
  no_break_first names d done z fit = refl
  no_break_first names d (fault name) z fit = refl

inside : (names : Declared) (b : Statements) → ScriptFits names b → statements_break b ≡ false
inside names b fits = no_break names (record { braces = 0; loops = 0 }) b refl fits.statements_fit

-- a script can be run
pub can_run : (names : Declared) (b : Statements) → ScriptFits names b → CanRun b
can_run names b fits =
    record { inside = inside names b fits; ends = fits.ends; few = fits.few; moves = few_moves names b fits; limits = points_keep_limits names b fits }

-- and suits its kind
pub suits_kind : (names : Declared) (b : Statements) → ScriptFits names b → SuitsKind names.kind b
suits_kind names b fits = points_suit names b fits
