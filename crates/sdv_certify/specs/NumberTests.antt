-- Which scripts are WITHOUT NUMBER TESTS: no `if` compares a number, and no `let` adds to a value or takes from it,
-- which would test the range of the result. What is known of numbers then closes no way.
use Rattle.sdv_script.specs.declared.script.Script.{Script}
use Rattle.sdv_graph.specs.declared.tree.Change.{Change}
use Rattle.sdv_graph.specs.declared.tree.Change.TheVariants.{Same, Plus, Minus}
use Rattle.sdv_graph.specs.declared.tree.Condition.{Condition}
use Rattle.sdv_graph.specs.declared.tree.Condition.TheVariants.{Flag, AtLeast, Below}
use Rattle.sdv_script.specs.Shown.{shown}
use Rattle.sdv_graph.specs.Tree.{Statements, nothing, first, Ways, otherwise, way, Statement, send, phase, setting, choice, set, clear, bus_lines, turns, break, done, fault}

abbrev pub KeepsValue : Change → Type 0
KeepsValue Same = Unit {0}
KeepsValue (Plus k) = ⊥
KeepsValue (Minus k) = ⊥

abbrev pub AsksFlag : Condition → Type 0
AsksFlag (Flag flag) = Unit {0}
AsksFlag (AtLeast x n) = ⊥
AsksFlag (Below x n) = ⊥

abbrev mutual
  pub StatementsTestNoNumber : Statements → Type 0
  StatementsTestNoNumber nothing = Unit {0}
  StatementsTestNoNumber (first s rest) = TestsNoNumber s × StatementsTestNoNumber rest

  pub WaysTestNoNumber : Ways → Type 0
  WaysTestNoNumber (otherwise b) = StatementsTestNoNumber b
  WaysTestNoNumber (way guards b rest) = StatementsTestNoNumber b × WaysTestNoNumber rest

  pub TestsNoNumber : Statement → Type 0
  TestsNoNumber (send c ways) = WaysTestNoNumber ways
  TestsNoNumber (phase p a b) = StatementsTestNoNumber a × StatementsTestNoNumber b
  TestsNoNumber (setting l) = KeepsValue l.change
  TestsNoNumber (choice c a b) = AsksFlag c × StatementsTestNoNumber a × StatementsTestNoNumber b
  TestsNoNumber (set f) = Unit {0}
  TestsNoNumber (clear f) = Unit {0}
  TestsNoNumber (bus_lines width) = Unit {0}
  TestsNoNumber (turns n a b) = StatementsTestNoNumber a × StatementsTestNoNumber b
  TestsNoNumber break = Unit {0}
  TestsNoNumber done = Unit {0}
  TestsNoNumber (fault name) = Unit {0}

abbrev pub IsWithoutNumberTests : Script → Type 0
IsWithoutNumberTests s = StatementsTestNoNumber (shown s).body
