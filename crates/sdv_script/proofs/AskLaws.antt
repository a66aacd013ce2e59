-- Each command of a script's graph asks by a line of the command table.
use Rattle.std.proofs.Common.{ℕ, ◌+◌, ◌-◌, List, [], ◌∷◌, ◌++◌, sym, subst, arith, Option}
use Rattle.std.specs.List.{All}
use Rattle.std.proofs.lemmas.List.Elements.{All-append, All-cons}
use Rattle.sdv_registers.specs.declared.kind.Kind.{Kind}
use Rattle.sdv_card.specs.declared.command.Order.{Order}
use Rattle.sdv_card.specs.CommandTable.{order_of}
use Rattle.sdv_script.specs.declared.depth.Depth.{Depth}
use Rattle.sdv_graph.specs.declared.graph.Target.{Target}
use Rattle.sdv_script.specs.Rules.{deeper, in_loop, StatementsFit, WaysFit, StatementFits, statements_count, statement_count}
use Rattle.sdv_graph.specs.Tree.{Statements, nothing, first, Ways, otherwise, way, Statement, send, phase, setting, choice, set, clear, bus_lines, turns, break, done, fault, Declared}
use Rattle.sdv_graph.specs.Path.{Point, sends}
use Rattle.sdv_graph.specs.Points.{again, entry, outside, past, cases_of, other_of, point_with, points_of_statements, points_of_ways, points_of_statement}
use Rattle.sdv_graph.specs.Graph.{Graph}
use Rattle.sdv_script.specs.OneGraph.{IsGraphOfScript}
use Rattle.sdv_script.specs.Script.{Parsed, IsScript}
use Rattle.sdv_script.specs.Asks.{PointAsks, AsksByTable}
use Rattle.sdv_script.proofs.CommandAsks.{command_asks}

abbrev Asking : Kind → List Point → Type 0
Asking k ps = All (PointAsks k) ps

none_asks : (k : Kind) → Asking k []
none_asks k i d lt = absurd (omega arith)

alone : (k : Kind) (p : Point) → PointAsks k p → Asking k (p ∷ [])
alone k p is = All-cons (PointAsks k) p [] is (none_asks k)

mutual
  statements_ask : (names : Declared) (depth : Depth) (b : Statements) → StatementsFit names depth b → (at : ℕ) (next brk : Target) (most : List ℕ)
      → Asking names.kind (points_of_statements b at next brk most)
  statements_ask names depth nothing fits at next brk most = none_asks names.kind
  statements_ask names depth (first s rest) fits at next brk most =
      let mid = at + statement_count s in
      All-append (PointAsks names.kind) (points_of_statement s at (entry rest mid next) brk most) (points_of_statements rest mid next brk most)
      (statement_asks names depth s fits.0 at (entry rest mid next) brk most)
      (statements_ask names depth rest fits.1 mid next brk most)

  ways_ask : (names : Declared) (depth : Depth) (order : Option Order) (w : Ways) → WaysFit names depth order w → (at : ℕ) (next brk : Target) (most : List ℕ)
      → Asking names.kind (points_of_ways w at next brk most)
  ways_ask names depth order (otherwise b) fits at next brk most = statements_ask names (deeper depth) b fits.1 at next brk most
  ways_ask names depth order (way gs b rest) fits at next brk most =
      let mid = at + statements_count b in
      All-append (PointAsks names.kind) (points_of_statements b at next brk most) (points_of_ways rest mid next brk most)
      (statements_ask names (deeper depth) b fits.2 at next brk most)
      (ways_ask names depth order rest fits.3 mid next brk most)

  statement_asks : (names : Declared) (depth : Depth) (s : Statement) → StatementFits names depth s → (at : ℕ) (next brk : Target) (most : List ℕ)
      → Asking names.kind (points_of_statement s at next brk most)
  statement_asks names depth (send c ways) fits at next brk most =
      All-cons (PointAsks names.kind) (point_with (sends c (cases_of ways (at + 1) next) (other_of ways (at + 1) next)) most)
      (points_of_ways ways (at + 1) next brk most)
      (command_asks names c fits.0) (ways_ask names (deeper depth) (order_of names.kind c.ask) ways fits.2 (at + 1) next brk most)
  statement_asks names depth (phase p a b) fits at next brk most =
      let mid = at + 1 + statements_count a in
      All-cons (PointAsks names.kind) _ (points_of_statements a (at + 1) next brk most ++ points_of_statements b mid next brk most) tt
      (All-append (PointAsks names.kind) (points_of_statements a (at + 1) next brk most) (points_of_statements b mid next brk most)
      (statements_ask names (deeper (deeper depth)) a fits.2 (at + 1) next brk most)
      (statements_ask names (deeper (deeper depth)) b fits.3 mid next brk most))
  statement_asks names depth (setting l) fits at next brk most = alone names.kind _ tt
  statement_asks names depth (choice c a b) fits at next brk most =
      let mid = at + 1 + statements_count a in
      All-cons (PointAsks names.kind) _ (points_of_statements a (at + 1) next brk most ++ points_of_statements b mid next brk most) tt
      (All-append (PointAsks names.kind) (points_of_statements a (at + 1) next brk most) (points_of_statements b mid next brk most)
      (statements_ask names (deeper depth) a fits.2 (at + 1) next brk most)
      (statements_ask names (deeper depth) b fits.3 mid next brk most))
  statement_asks names depth (set f) fits at next brk most = alone names.kind _ tt
  statement_asks names depth (clear f) fits at next brk most = alone names.kind _ tt
  statement_asks names depth (bus_lines width) fits at next brk most = alone names.kind _ tt
  statement_asks names depth (turns n a b) fits at next brk most =
      let mid = at + 1 + statements_count a in
      let body = points_of_statements a (at + 1) (again at) (outside next) ((n - 1) ∷ most) in
      All-cons (PointAsks names.kind) _ (body ++ points_of_statements b mid next brk most) tt
      (All-append (PointAsks names.kind) body (points_of_statements b mid next brk most)
      (statements_ask names (deeper (in_loop depth)) a fits.4 (at + 1) (again at) (outside next) ((n - 1) ∷ most))
      (statements_ask names (deeper depth) b fits.5 mid next brk most))
  statement_asks names depth break fits at next brk most = alone names.kind _ tt
  statement_asks names depth done fits at next brk most = alone names.kind _ tt
  statement_asks names depth (fault name) fits at next brk most = alone names.kind _ tt

-- each command of a script's graph asks by a line of the command table
pub asks_by_table : (s : Parsed) (g : Graph) → IsScript s → IsGraphOfScript s g → AsksByTable g
asks_by_table s g is graph =
    let start : Depth = record { braces = 0; loops = 0 } in
    subst (λ k. All (PointAsks k) g.points) (sym graph.kind_same)
    (subst (Asking s.names.kind) (sym graph.points_same) (statements_ask s.names start s.body is.fits.statements_fit 0 (past s.body) (past s.body) []))
