-- The guards, registers and data lines of a script that fits the rules suit its points.
use Rattle.std.proofs.Common.{◌≡◌, ℕ, ◌+◌, ◌-◌, List, [], ◌∷◌, ◌++◌, Bool, true, false, refl, Option}
use Rattle.std.specs.Prelude.{◌&&◌}
use Rattle.sdv_registers.specs.declared.kind.Kind.{Kind}
use Rattle.sdv_registers.specs.declared.kind.Kind.TheVariants.{Sd, Emmc}
use Rattle.sdv_card.specs.declared.command.Order.{Order}
use Rattle.sdv_card.specs.declared.guard.Guard.{Guard}
use Rattle.sdv_card.specs.CommandTable.{order_of}
use Rattle.sdv_card.specs.Modes.{has_width}
use Rattle.sdv_script.specs.declared.depth.Depth.{Depth}
use Rattle.sdv_graph.specs.declared.graph.Target.{Target}
use Rattle.sdv_graph.specs.declared.tree.Atom.{Atom}
use Rattle.sdv_graph.specs.declared.tree.Atom.TheVariants as atoms
use Rattle.sdv_graph.specs.GuardSuits.{fits_order}
use Rattle.sdv_graph.specs.Tree.{Statements, nothing, first, Ways, otherwise, way, Statement, send, phase, setting, choice, set, clear, bus_lines, turns, break, done, fault, Declared}
use Rattle.sdv_script.specs.Commands.{has_ext_csd}
use Rattle.sdv_script.specs.Rules.{GuardsFit, AtomFits, StatementsFit, WaysFit, StatementFits, ScriptFits, statements_count, statement_count, deeper, in_loop}
use Rattle.sdv_graph.specs.Path.{Point}
use Rattle.sdv_graph.specs.Points.{entry, outside, again, cases_of, points_of_statements, points_of_ways, points_of_statement, past, points_of}
use Rattle.sdv_graph.specs.Suits.{guards_suit, cases_suit, atom_suits, action_suits, all_suit}

both : (a b : Bool) → a ≡ true → b ≡ true → a && b ≡ true
both true b p q = q
both false b p q = absurd (cc)

one_of : (a b : Bool) → a && b ≡ true → (a ≡ true) × (b ≡ true)
one_of true b p = (refl, p)
one_of false b p = absurd (cc)

all_append : (k : Kind) (ps qs : List Point) → all_suit k ps ≡ true → all_suit k qs ≡ true → all_suit k (ps ++ qs) ≡ true
all_append k [] qs a b = b
all_append k (p ∷ ps) qs a b =
    let parts = one_of (action_suits k p.action) (all_suit k ps) a in
    both (action_suits k p.action) (all_suit k (ps ++ qs)) parts.0 (all_append k ps qs parts.1 b)

guards_of : (order : Option Order) (gs : List Guard) → GuardsFit order gs → guards_suit order gs ≡ true
guards_of order [] fit = absurd fit
guards_of order (g ∷ []) fit = both (fits_order g order) true fit refl
guards_of order (g ∷ h ∷ gs) fit = both (fits_order g order) (guards_suit order (h ∷ gs)) fit.0 (guards_of order (h ∷ gs) fit.1)

cases_made : (names : Declared) (d : Depth) (order : Option Order) (c : Ways) (at : ℕ) (next : Target) → WaysFit names d order c
    → cases_suit order (cases_of c at next) ≡ true
cases_made names d order (otherwise b) at next fit = refl
cases_made names d order (way guards b rest) at next fit =
    both (guards_suit order guards) (cases_suit order (cases_of rest (at + statements_count b) next)) (guards_of order guards fit.0)
    (cases_made names d order rest (at + statements_count b) next fit.3)

ext_csd_suits : (k : Kind) → has_ext_csd k ≡ true → (atom_suits k atoms.ExtBlocks ≡ true) × (atom_suits k atoms.ExtBoot ≡ true)
ext_csd_suits Sd has = absurd cc
ext_csd_suits Emmc has = (refl, refl)

other_suits : (k : Kind) → ((n : ℕ) → atom_suits k (atoms.Number n) ≡ true) × ((x : ℕ) → atom_suits k (atoms.Variable x) ≡ true)
    × (atom_suits k atoms.CsdBlocks ≡ true)
other_suits Sd = (λ n. refl, λ x. refl, refl)
other_suits Emmc = (λ n. refl, λ x. refl, refl)

atom_of : (names : Declared) (a : Atom) → AtomFits names a → atom_suits names.kind a ≡ true
atom_of names (atoms.Number n) fit = (other_suits names.kind).0 n
atom_of names (atoms.Variable x) fit = (other_suits names.kind).1 x
atom_of names atoms.CsdBlocks fit = (other_suits names.kind).2
atom_of names atoms.ExtBlocks fit = (ext_csd_suits names.kind fit).0
atom_of names atoms.ExtBoot fit = (ext_csd_suits names.kind fit).1

module _ (names : Declared) where
  mutual
    statements_suit : (d : Depth) (b : Statements) (at : ℕ) (next brk : Target) (most : List ℕ) → StatementsFit names d b
        → all_suit names.kind (points_of_statements b at next brk most) ≡ true
    statements_suit d nothing at next brk most fit = refl
    statements_suit d (first s rest) at next brk most fit =
        let mid = at + statement_count s in
        let to = entry rest mid next in
        all_append names.kind (points_of_statement s at to brk most) (points_of_statements rest mid next brk most) (statement_suits d s at to brk most fit.0)
        (statements_suit d rest mid next brk most fit.1)

    ways_suit : (d : Depth) (order : Option Order) (c : Ways) (at : ℕ) (next brk : Target) (most : List ℕ) → WaysFit names d order c
        → all_suit names.kind (points_of_ways c at next brk most) ≡ true
    ways_suit d order (otherwise b) at next brk most fit = statements_suit (deeper d) b at next brk most fit.1
    ways_suit d order (way guards b rest) at next brk most fit =
        let mid = at + statements_count b in
        all_append names.kind (points_of_statements b at next brk most) (points_of_ways rest mid next brk most)
        (statements_suit (deeper d) b at next brk most fit.2) (ways_suit d order rest mid next brk most fit.3)

    statement_suits : (d : Depth) (s : Statement) (at : ℕ) (next brk : Target) (most : List ℕ) → StatementFits names d s
        → all_suit names.kind (points_of_statement s at next brk most) ≡ true
    statement_suits d (send c ways) at next brk most fit =
        both (cases_suit (order_of names.kind c.ask) (cases_of ways (at + 1) next)) (all_suit names.kind (points_of_ways ways (at + 1) next brk most))
        (cases_made names (deeper d) (order_of names.kind c.ask) ways (at + 1) next fit.2)
        (ways_suit (deeper d) (order_of names.kind c.ask) ways (at + 1) next brk most fit.2)
    statement_suits d (phase p a b) at next brk most fit =
        let mid = at + 1 + statements_count a in
        all_append names.kind (points_of_statements a (at + 1) next brk most) (points_of_statements b mid next brk most)
        (statements_suit (deeper (deeper d)) a (at + 1) next brk most fit.2) (statements_suit (deeper (deeper d)) b mid next brk most fit.3)
    statement_suits d (setting l) at next brk most fit = both (atom_suits names.kind l.atom) true (atom_of names l.atom fit.1) refl
    statement_suits d (choice c a b) at next brk most fit =
        let mid = at + 1 + statements_count a in
        all_append names.kind (points_of_statements a (at + 1) next brk most) (points_of_statements b mid next brk most)
        (statements_suit (deeper d) a (at + 1) next brk most fit.2) (statements_suit (deeper d) b mid next brk most fit.3)
    statement_suits d (set f) at next brk most fit = refl
    statement_suits d (clear f) at next brk most fit = refl
    statement_suits d (bus_lines width) at next brk most fit = both (has_width names.kind width) true fit refl
    statement_suits d (turns n a b) at next brk most fit =
        let mid = at + 1 + statements_count a in
        all_append names.kind (points_of_statements a (at + 1) (again at) (outside next) ((n - 1) ∷ most)) (points_of_statements b mid next brk most)
        (statements_suit (deeper (in_loop d)) a (at + 1) (again at) (outside next) ((n - 1) ∷ most) fit.4)
        (statements_suit (deeper d) b mid next brk most fit.5)
    statement_suits d break at next brk most fit = refl
    statement_suits d done at next brk most fit = refl
    statement_suits d (fault name) at next brk most fit = refl

pub points_suit : (names : Declared) (b : Statements) → ScriptFits names b → all_suit names.kind (points_of b) ≡ true
points_suit names b fits = statements_suit names (record { braces = 0; loops = 0 }) b 0 (past b) (past b) [] fits.statements_fit
