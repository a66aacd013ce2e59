-- The points of a script that fits the rules keep the limits.
use Rattle.std.proofs.Common.{◌≡◌, ℕ, ◌+◌, ◌-◌, ◌<◌, ◌≤◌, List, [], ◌∷◌, ◌++◌, length, Bool, true, false, Option, refl, sym, subst, arith, lit<, le-leb, lt-ltb}
use Rattle.std.specs.Prelude.{◌&&◌, nat_le}
use Rattle.sdv_card.specs.declared.command.Order.{Order}
use Rattle.sdv_card.specs.declared.command.Order.TheVariants as orders
use Rattle.sdv_card.specs.CommandTable.{order_of}
use Rattle.sdv_card.proofs.RowsOfOrders.{order_index}
use Rattle.sdv_card.proofs.OrdersOfAsks.{of_ask}
use Rattle.sdv_script.specs.declared.depth.Depth.{Depth}
use Rattle.sdv_graph.specs.declared.graph.Target.{Target}
use Rattle.sdv_graph.specs.declared.tree.ScriptCommand.{ScriptCommand}
use Rattle.sdv_graph.specs.Tree.{Statements, nothing, first, Ways, otherwise, way, Statement, send, phase, setting, choice, set, clear, bus_lines, turns, break, done, fault, Declared}
use Rattle.sdv_script.specs.Rules.{CommandFits, StatementsFit, WaysFit, StatementFits, ScriptFits, max_flags, max_loops, max_name, statements_count, statement_count, deeper, in_loop}
use Rattle.sdv_graph.specs.Walk.{Finished, Failed}
use Rattle.sdv_graph.specs.Path.{Action, Point, sends, phases, lets, tests, flags, widths, heads, jumps, stops}
use Rattle.sdv_graph.specs.Points.{entry, outside, again, cases_of, other_of, point_with, points_of_statements, points_of_ways, points_of_statement, past, points_of}
use Rattle.sdv_graph.specs.Limits.{action_keeps_limits, keeps_limits, all_keep_limits}
use Rattle.sdv_script.proofs.CommandAsks.{command_asks}

both : (a b : Bool) → a ≡ true → b ≡ true → a && b ≡ true
both true b p q = q
both false b p q = absurd (cc)

one_of : (a b : Bool) → a && b ≡ true → (a ≡ true) × (b ≡ true)
one_of true b p = (refl, p)
one_of false b p = absurd (cc)

all_append : (ps qs : List Point) → all_keep_limits ps ≡ true → all_keep_limits qs ≡ true → all_keep_limits (ps ++ qs) ≡ true
all_append [] qs a b = b
all_append (p ∷ ps) qs a b =
    let parts = one_of (keeps_limits p) (all_keep_limits ps) a in
    both (keeps_limits p) (all_keep_limits (ps ++ qs)) parts.0 (all_append ps qs parts.1 b)

-- a script's commands have indices of 6 bits
order_small : (order : Order) → order_index order < 64
order_small orders.GoIdleState = lit< tt
order_small orders.SendOpCond = lit< tt
order_small orders.AllSendCid = lit< tt
order_small orders.SendRelativeAddress = lit< tt
order_small orders.SetRelativeAddress = lit< tt
order_small (orders.SetBusWidth width) = lit< tt
order_small (orders.Switch s) = lit< tt
order_small orders.SelectCard = lit< tt
order_small orders.DeselectCards = lit< tt
order_small orders.SendIfCond = lit< tt
order_small orders.SendExtCsd = lit< tt
order_small orders.SendCsd = lit< tt
order_small orders.SendCid = lit< tt
order_small orders.StopTransmission = lit< tt
order_small orders.SendStatus = lit< tt
order_small orders.SetBlockLength = lit< tt
order_small orders.ReadSingleBlock = lit< tt
order_small (orders.ReadMultipleBlock n) = lit< tt
order_small (orders.SetBlockCount n) = lit< tt
order_small orders.WriteBlock = lit< tt
order_small (orders.WriteMultipleBlock n) = lit< tt
order_small orders.EraseBlockStart = lit< tt
order_small orders.EraseBlockEnd = lit< tt
order_small orders.EraseGroupStart = lit< tt
order_small orders.EraseGroupEnd = lit< tt
order_small orders.Erase = lit< tt
order_small (orders.SdSendOpCond high) = lit< tt
order_small orders.SendScr = lit< tt
order_small orders.AppCommand = lit< tt

index_small : (names : Declared) (c : ScriptCommand) → CommandFits names c → c.ask.index < 64
index_small names c fits =
    let asked = command_asks names c fits in
    subst (λ (n : ℕ). n < 64) (sym (of_ask names.kind c.ask asked.0 asked.1.line).index) (order_small asked.0)

first_keeps : (action : Action) (most : List ℕ) (rest : List Point) → action_keeps_limits action ≡ true → length most ≤ max_loops → all_keep_limits rest ≡ true
    → all_keep_limits (point_with action most ∷ rest) ≡ true
first_keeps action most rest n m r =
    both (keeps_limits (point_with action most)) (all_keep_limits rest)
    (both (action_keeps_limits action) (nat_le (length most) max_loops) n (le-leb (length most) max_loops m)) r

module _ (names : Declared) (few : length names.flags ≤ max_flags) where
  mutual
    statements_keep : (d : Depth) (b : Statements) (at : ℕ) (next brk : Target) (most : List ℕ) → d.loops ≤ max_loops → length most ≤ d.loops
        → StatementsFit names d b → all_keep_limits (points_of_statements b at next brk most) ≡ true
    statements_keep d nothing at next brk most l m fit = refl
    statements_keep d (first s rest) at next brk most l m fit =
        let mid = at + statement_count s in
        let to = entry rest mid next in
        all_append (points_of_statement s at to brk most) (points_of_statements rest mid next brk most) (statement_keeps d s at to brk most l m fit.0)
        (statements_keep d rest mid next brk most l m fit.1)

    ways_keep : (d : Depth) (order : Option Order) (c : Ways) (at : ℕ) (next brk : Target) (most : List ℕ) → d.loops ≤ max_loops → length most ≤ d.loops
        → WaysFit names d order c → all_keep_limits (points_of_ways c at next brk most) ≡ true
    ways_keep d order (otherwise b) at next brk most l m fit = statements_keep (deeper d) b at next brk most l m fit.1
    ways_keep d order (way guards b rest) at next brk most l m fit =
        let mid = at + statements_count b in
        all_append (points_of_statements b at next brk most) (points_of_ways rest mid next brk most) (statements_keep (deeper d) b at next brk most l m fit.2)
        (ways_keep d order rest mid next brk most l m fit.3)

    statement_keeps : (d : Depth) (s : Statement) (at : ℕ) (next brk : Target) (most : List ℕ) → d.loops ≤ max_loops → length most ≤ d.loops
        → StatementFits names d s → all_keep_limits (points_of_statement s at next brk most) ≡ true
    statement_keeps d (send c ways) at next brk most l m fit =
        first_keeps (sends c (cases_of ways (at + 1) next) (other_of ways (at + 1) next)) most (points_of_ways ways (at + 1) next brk most)
        (lt-ltb c.ask.index 64 (index_small names c fit.0)) (omega (arith, l, m))
        (ways_keep (deeper d) (order_of names.kind c.ask) ways (at + 1) next brk most l m fit.2)
    statement_keeps d (phase p a b) at next brk most l m fit =
        let mid = at + 1 + statements_count a in
        let one = points_of_statements a (at + 1) next brk most in
        let two = points_of_statements b mid next brk most in
        first_keeps (phases p (entry a (at + 1) next) (entry b mid next)) most (one ++ two) refl (omega (arith, l, m))
        (all_append one two (statements_keep (deeper (deeper d)) a (at + 1) next brk most l m fit.2)
        (statements_keep (deeper (deeper d)) b mid next brk most l m fit.3))
    statement_keeps d (setting s) at next brk most l m fit = first_keeps (lets s next) most [] refl (omega (arith, l, m)) refl
    statement_keeps d (choice c a b) at next brk most l m fit =
        let mid = at + 1 + statements_count a in
        let one = points_of_statements a (at + 1) next brk most in
        let two = points_of_statements b mid next brk most in
        first_keeps (tests c (entry a (at + 1) next) (entry b mid next)) most (one ++ two) refl (omega (arith, l, m))
        (all_append one two (statements_keep (deeper d) a (at + 1) next brk most l m fit.2) (statements_keep (deeper d) b mid next brk most l m fit.3))
    statement_keeps d (set f) at next brk most l m fit =
        first_keeps (flags f true next) most [] (lt-ltb f max_flags (omega (arith, fit, few))) (omega (arith, l, m)) refl
    statement_keeps d (clear f) at next brk most l m fit =
        first_keeps (flags f false next) most [] (lt-ltb f max_flags (omega (arith, fit, few))) (omega (arith, l, m)) refl
    statement_keeps d (bus_lines width) at next brk most l m fit = first_keeps (widths width next) most [] refl (omega (arith, l, m)) refl
    statement_keeps d (turns n a b) at next brk most l m fit =
        let mid = at + 1 + statements_count a in
        let inner = (n - 1) ∷ most in
        let one = points_of_statements a (at + 1) (again at) (outside next) inner in
        let two = points_of_statements b mid next brk most in
        first_keeps (heads n (entry a (at + 1) (again at)) (outside (entry b mid next))) (n ∷ most) (one ++ two) refl (omega (arith, m, fit.2))
        (all_append one two (statements_keep (deeper (in_loop d)) a (at + 1) (again at) (outside next) inner (omega (arith, fit.2))
        (omega (arith, m)) fit.4) (statements_keep (deeper d) b mid next brk most l m fit.5))
    statement_keeps d break at next brk most l m fit = first_keeps (jumps brk) most [] refl (omega (arith, l, m)) refl
    statement_keeps d done at next brk most l m fit = first_keeps (stops Finished) most [] refl (omega (arith, l, m)) refl
    statement_keeps d (fault name) at next brk most l m fit =
        first_keeps (stops (Failed name)) most [] (le-leb (length name) max_name fit) (omega (arith, l, m)) refl

pub points_keep_limits : (names : Declared) (b : Statements) → ScriptFits names b → all_keep_limits (points_of b) ≡ true
points_keep_limits names b fits =
    statements_keep names fits.names_fit.few_flags (record { braces = 0; loops = 0 }) b 0 (past b) (past b) [] (omega arith) (omega arith) fits.statements_fit
