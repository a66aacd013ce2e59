-- No point of a script without number tests tests a number, so that a value is always carried on.
use Rattle.std.proofs.Common.{◌≡◌, ℕ, zero, suc, ◌+◌, ◌-◌, List, [], ◌∷◌, ◌++◌, Some, IfSome, option_map, slice_get, sym, ap, ◌∙◌, subst}
use Rattle.sdv_graph.specs.declared.graph.Target.{Target}
use Rattle.sdv_graph.specs.declared.tree.Change.{Change}
use Rattle.sdv_graph.specs.declared.tree.Change.TheVariants.{Same, Plus, Minus}
use Rattle.sdv_graph.specs.Graph.{Graph}
use Rattle.sdv_graph.specs.GraphOf.{IsGraphOf}
use Rattle.sdv_graph.specs.Path.{Action, Point, lets, tests}
use Rattle.sdv_graph.specs.Points.{points_of, points_of_statements, points_of_ways, points_of_statement, entry, again, outside, past}
use Rattle.sdv_script.specs.Rules.{statements_count, statement_count}
use Rattle.sdv_graph.specs.Tree.{Statements, nothing, first, Ways, otherwise, way, Statement, send, phase, setting, choice, set, clear, bus_lines, turns, break, done, fault, Declared}
use Rattle.sdv_facts.specs.declared.numbers.Numbers.{Numbers}
use Rattle.sdv_facts.specs.declared.numbers.VarFacts.{VarFacts}
use Rattle.sdv_facts.specs.AfterLet.{changed_facts}
use Rattle.sdv_certify.specs.NumberTests.{KeepsValue, AsksFlag, StatementsTestNoNumber, WaysTestNoNumber, TestsNoNumber}

-- the same of a point
abbrev pub ActionTestsNoNumber : Action → Type 0
ActionTestsNoNumber (lets l t) = KeepsValue l.change
ActionTestsNoNumber (tests c met unmet) = AsksFlag c
ActionTestsNoNumber action = Unit {0}

abbrev EachAction : List Point → Type 0
EachAction [] = Unit {0}
EachAction (p ∷ ps) = ActionTestsNoNumber p.action × EachAction ps

both : (a b : List Point) → EachAction a → EachAction b → EachAction (a ++ b)
both [] b s t = t
both (p ∷ ps) b s t = (s.0, both ps b s.1 t)

each_at : (ps : List Point) (i : ℕ) (p : Point) → EachAction ps → slice_get ps i ≡ Some p → ActionTestsNoNumber p.action
each_at [] i p s e = absurd (cc)
each_at (x ∷ xs) zero p s e = let f : x ≡ p = cc in subst (λ (y : Point). ActionTestsNoNumber y.action) f s.0
each_at (x ∷ xs) (suc i) p s e = each_at xs i p s.1 e

mutual
  of_statements : (b : Statements) (at : ℕ) (next brk : Target) (most : List ℕ) → StatementsTestNoNumber b
      → EachAction (points_of_statements b at next brk most)
  of_statements nothing at next brk most h = tt
  of_statements (first s rest) at next brk most h =
      both (points_of_statement s at (entry rest (at + statement_count s) next) brk most) (points_of_statements rest (at + statement_count s) next brk most)
      (of_statement s at (entry rest (at + statement_count s) next) brk most h.0) (of_statements rest (at + statement_count s) next brk most h.1)

  of_ways : (w : Ways) (at : ℕ) (next brk : Target) (most : List ℕ) → WaysTestNoNumber w → EachAction (points_of_ways w at next brk most)
  of_ways (otherwise b) at next brk most h = of_statements b at next brk most h
  of_ways (way gs b rest) at next brk most h =
      both (points_of_statements b at next brk most) (points_of_ways rest (at + statements_count b) next brk most)
      (of_statements b at next brk most h.0) (of_ways rest (at + statements_count b) next brk most h.1)

  of_statement : (s : Statement) (at : ℕ) (next brk : Target) (most : List ℕ) → TestsNoNumber s → EachAction (points_of_statement s at next brk most)
  of_statement (send c ways) at next brk most h = (tt, of_ways ways (at + 1) next brk most h)
  of_statement (phase p a b) at next brk most h = (
    tt,
    both (points_of_statements a (at + 1) next brk most) (points_of_statements b (at + 1 + statements_count a) next brk most)
        (of_statements a (at + 1) next brk most h.0) (of_statements b (at + 1 + statements_count a) next brk most h.1),
  )
  of_statement (setting l) at next brk most h = (h, tt)
  of_statement (choice c a b) at next brk most h = (
    h.0,
    both (points_of_statements a (at + 1) next brk most) (points_of_statements b (at + 1 + statements_count a) next brk most)
        (of_statements a (at + 1) next brk most h.1) (of_statements b (at + 1 + statements_count a) next brk most h.2),
  )
  of_statement (set f) at next brk most h = (tt, tt)
  of_statement (clear f) at next brk most h = (tt, tt)
  of_statement (bus_lines width) at next brk most h = (tt, tt)
  of_statement (turns n a b) at next brk most h = (
    tt,
    both (points_of_statements a (at + 1) (again at) (outside next) ((n - 1) ∷ most)) (points_of_statements b (at + 1 + statements_count a) next brk most)
        (of_statements a (at + 1) (again at) (outside next) ((n - 1) ∷ most) h.0) (of_statements b (at + 1 + statements_count a) next brk most h.1),
  )
  of_statement break at next brk most h = (tt, tt)
  of_statement done at next brk most h = (tt, tt)
  of_statement (fault name) at next brk most h = (tt, tt)

abbrev pub PointsTestNoNumber : Graph → Type 0
PointsTestNoNumber g = (i : ℕ) (place : Point) → slice_get g.points i ≡ Some place → ActionTestsNoNumber place.action

pub points_test_no_number : (names : Declared) (script : Statements) (lines : List ℕ) (g : Graph) → StatementsTestNoNumber script
    → IsGraphOf names script lines g
    → PointsTestNoNumber g
points_test_no_number names script lines g h is i place here =
    each_at (points_of script) i place (of_statements script 0 (past script) (past script) [] h) (ap (λ l. slice_get l i) (sym is.points_same) ∙ here)

-- a value that keeps is carried along an edge, whatever is known
pub carried_on : {X : Type 0} (c : Change) (v : VarFacts) (carry : VarFacts → Numbers) → KeepsValue c
    → IfSome (option_map carry (changed_facts c v)) (λ after. X) → X
carried_on Same v carry h x = x
carried_on (Plus k) v carry h x = absurd h
carried_on (Minus k) v carry h x = absurd h
