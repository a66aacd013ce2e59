-- The graph of a script keeps the limits of scripts.
use Rattle.std.proofs.Common.{◌≡◌, ℕ, zero, suc, ◌+◌, ◌-◌, ◌≤◌, List, [], ◌∷◌, ◌++◌, Some, length, slice_get, sym, ap, ◌∙◌, subst, arith, Option}
use Rattle.std.proofs.Props.{props}
use Rattle.std.proofs.Math.Logic.{∥∥₁_elim}
use Rattle.sdv_script.specs.Lines.{statement_lines}
use Rattle.sdv_script.specs.OneGraph.{IsGraphOfScript}
use Rattle.sdv_script.proofs.GraphOf.{only_graph}
use Rattle.sdv_script.specs.declared.depth.Depth.{Depth}
use Rattle.sdv_graph.specs.declared.graph.Target.{Target}
use Rattle.sdv_script.specs.declared.script.Script.{Script}
use Rattle.sdv_graph.specs.declared.tree.Atom.{Atom}
use Rattle.sdv_graph.specs.declared.tree.Atom.TheVariants as atoms
use Rattle.sdv_card.specs.declared.command.Order.{Order}
use Rattle.sdv_card.specs.CommandTable.{order_of}
use Rattle.sdv_graph.specs.Graph.{Graph}
use Rattle.sdv_graph.specs.Path.{Action, Point, sends, phases, lets, tests, flags, widths, heads, jumps, stops}
use Rattle.sdv_graph.specs.Points.{points_of, points_of_statements, points_of_ways, points_of_statement, entry, again, outside, past}
use Rattle.sdv_script.specs.Rules.{AtomFits, StatementsFit, WaysFit, StatementFits, deeper, in_loop, statements_count, statement_count}
use Rattle.sdv_script.specs.Script.{IsScript, Parsed}
use Rattle.sdv_script.specs.Shown.{shown}
use Rattle.sdv_graph.specs.Tree.{Statements, nothing, first, Ways, otherwise, way, Statement, send, phase, setting, choice, set, clear, bus_lines, turns, break, done, fault, Declared}
use Rattle.sdv_facts.specs.Limits.{AtomInLimits}
use Rattle.sdv_certify.specs.declared.fault.CertifyFault.{CertifyFault}
use Rattle.sdv_certify.specs.Refusal.{RefusedAs}
use Rattle.sdv_certify.specs.Answers.{IsRefused}
use Rattle.sdv_certify.specs.Fits.{ActionFits, GraphFits}

abbrev pub EachAction : List Point → Type 0
EachAction [] = Unit {0}
EachAction (p ∷ ps) = ActionFits p.action × EachAction ps

both : (a b : List Point) → EachAction a → EachAction b → EachAction (a ++ b)
both [] b s t = t
both (p ∷ ps) b s t = (s.0, both ps b s.1 t)

each_at : (ps : List Point) (i : ℕ) (p : Point) → EachAction ps → slice_get ps i ≡ Some p → ActionFits p.action
each_at [] i p s e = absurd (cc)
each_at (x ∷ xs) zero p s e = let f : x ≡ p = cc in subst (λ (y : Point). ActionFits y.action) f s.0
each_at (x ∷ xs) (suc i) p s e = each_at xs i p s.1 e

atom_small : (names : Declared) (a : Atom) → AtomFits names a → AtomInLimits a
atom_small names (atoms.Number n) h = h
atom_small names (atoms.Variable x) h = tt
atom_small names atoms.CsdBlocks h = tt
atom_small names atoms.ExtBlocks h = tt
atom_small names atoms.ExtBoot h = tt

module _ (names : Declared) (few : length names.flags ≤ 4) where
  mutual
    statements_fit : (depth : Depth) (b : Statements) (at : ℕ) (next brk : Target) (most : List ℕ) → StatementsFit names depth b
        → EachAction (points_of_statements b at next brk most)
    statements_fit depth nothing at next brk most f = tt
    statements_fit depth (first s rest) at next brk most f =
        both (points_of_statement s at (entry rest (at + statement_count s) next) brk most) (points_of_statements rest (at + statement_count s) next brk most)
        (statement_fits depth s at (entry rest (at + statement_count s) next) brk most f.0)
        (statements_fit depth rest (at + statement_count s) next brk most f.1)

    ways_fit : (depth : Depth) (order : Option Order) (w : Ways) (at : ℕ) (next brk : Target) (most : List ℕ) → WaysFit names depth order w
        → EachAction (points_of_ways w at next brk most)
    ways_fit depth order (otherwise b) at next brk most f = statements_fit (deeper depth) b at next brk most f.1
    ways_fit depth order (way gs b rest) at next brk most f =
        both (points_of_statements b at next brk most) (points_of_ways rest (at + statements_count b) next brk most)
        (statements_fit (deeper depth) b at next brk most f.2) (ways_fit depth order rest (at + statements_count b) next brk most f.3)

    statement_fits : (depth : Depth) (s : Statement) (at : ℕ) (next brk : Target) (most : List ℕ) → StatementFits names depth s
        → EachAction (points_of_statement s at next brk most)
    statement_fits depth (send c ways) at next brk most f = (tt, ways_fit (deeper depth) (order_of names.kind c.ask) ways (at + 1) next brk most f.2)
    statement_fits depth (phase p a b) at next brk most f = (
      tt,
      both (points_of_statements a (at + 1) next brk most) (points_of_statements b (at + 1 + statements_count a) next brk most)
          (statements_fit (deeper (deeper depth)) a (at + 1) next brk most f.2)
          (statements_fit (deeper (deeper depth)) b (at + 1 + statements_count a) next brk most f.3),
    )
    statement_fits depth (setting l) at next brk most f = (atom_small names l.atom f.1, tt)
    statement_fits depth (choice c a b) at next brk most f = (
      tt,
      both (points_of_statements a (at + 1) next brk most) (points_of_statements b (at + 1 + statements_count a) next brk most)
          (statements_fit (deeper depth) a (at + 1) next brk most f.2) (statements_fit (deeper depth) b (at + 1 + statements_count a) next brk most f.3),
    )
    statement_fits depth (set x) at next brk most f = (omega (arith, f, few), tt)
    statement_fits depth (clear x) at next brk most f = (omega (arith, f, few), tt)
    statement_fits depth (bus_lines width) at next brk most f = (tt, tt)
    statement_fits depth (turns n a b) at next brk most f = (
      tt,
      both (points_of_statements a (at + 1) (again at) (outside next) ((n - 1) ∷ most)) (points_of_statements b (at + 1 + statements_count a) next brk most)
          (statements_fit (deeper (in_loop depth)) a (at + 1) (again at) (outside next) ((n - 1) ∷ most) f.4)
          (statements_fit (deeper depth) b (at + 1 + statements_count a) next brk most f.5),
    )
    statement_fits depth break at next brk most f = (tt, tt)
    statement_fits depth done at next brk most f = (tt, tt)
    statement_fits depth (fault name) at next brk most f = (tt, tt)

graph_fits : (p : Parsed) (g : Graph) → IsGraphOfScript p g → IsScript p → GraphFits g
graph_fits p g is s = record {
  few = (let n = s.fits.names_fit.few_numbers in let e = is.numbers_same in omega (arith, n, e));
  actions = λ i place here. each_at (points_of p.body) i place
      (statements_fit p.names s.fits.names_fit.few_flags (record { braces = 0; loops = 0 }) p.body 0 (past p.body) (past p.body) [] s.fits.statements_fit)
      (ap (λ l. slice_get l i) (sym is.points_same) ∙ here);
}

action_prop : (action : Action) → IsProp (ActionFits action)
action_prop (sends c ways other) = hlevel props
action_prop (phases p well other) = hlevel props
action_prop (lets l t) = atom_prop l.atom
  where
    atom_prop : (a : Atom) → IsProp (AtomInLimits a)
    atom_prop (atoms.Number n) = hlevel props
    atom_prop (atoms.Variable x) = hlevel props
    atom_prop atoms.CsdBlocks = hlevel props
    atom_prop atoms.ExtBlocks = hlevel props
    atom_prop atoms.ExtBoot = hlevel props
action_prop (tests c met unmet) = hlevel props
action_prop (flags flag on t) = hlevel props
action_prop (widths width t) = hlevel props
action_prop (heads n body other) = hlevel props
action_prop (jumps t) = hlevel props
action_prop (stops last) = hlevel props

fits_prop : (g : Graph) → IsProp (GraphFits g)
fits_prop g = hlevel (props, action_prop)

pub script_fits : (s : Script) (g : Graph) → IsGraphOfScript (shown s) g → GraphFits g
script_fits s g is = ∥∥₁_elim s.is_script (fits_prop g) (graph_fits (shown s) g is)

-- ONE GRAPH

pub one_graph : (p : Parsed) (g h : Graph) → IsGraphOfScript p g → IsGraphOfScript p h → g ≡ h
one_graph p g h a b = only_graph p.names p.body (statement_lines p) g a ∙ sym (only_graph p.names p.body (statement_lines p) h b)

pub refused_of : (s : Script) (g : Graph) (why : CertifyFault) → IsGraphOfScript (shown s) g → RefusedAs g why → IsRefused s why
refused_of s g why is r h other = subst (λ (x : Graph). RefusedAs x why) (one_graph (shown s) g h is other) r
