-- The FAULTS in which a script may end: those that it names, and the fault of a number out of range.
use Rattle.std.specs.Prelude.{ℕ, List, [], ◌∷◌, ◌++◌, codes}
use Rattle.sdv_card.specs.Lists.{May}
use Rattle.sdv_graph.specs.Tree.{Statements, nothing, first, Ways, otherwise, way, Statement, send, phase, setting, choice, set, clear, bus_lines, turns, break, done, fault}
use Rattle.sdv_graph.specs.Walk.{Ending, Failed}

-- the names of its `fault` statements
abbrev mutual
  pub statements_faults : Statements → List (List ℕ)
  statements_faults nothing = []
  statements_faults (first s rest) = statement_faults s ++ statements_faults rest

  pub ways_faults : Ways → List (List ℕ)
  ways_faults (otherwise b) = statements_faults b
  ways_faults (way guards b rest) = statements_faults b ++ ways_faults rest

  pub statement_faults : Statement → List (List ℕ)
  statement_faults (send c ways) = ways_faults ways
  statement_faults (phase p a b) = statements_faults a ++ statements_faults b
  statement_faults (setting l) = []
  statement_faults (choice c a b) = statements_faults a ++ statements_faults b
  statement_faults (set f) = []
  statement_faults (clear f) = []
  statement_faults (bus_lines width) = []
  statement_faults (turns n a b) = statements_faults a ++ statements_faults b
  statement_faults break = []
  statement_faults done = []
  statement_faults (fault name) = name ∷ []

-- a fault in which a walk ends is one of these
abbrev pub IsFaultOf : List (List ℕ) → Ending → Type 0
IsFaultOf names (Failed name) = May names name
IsFaultOf names e = Unit {0}

abbrev pub NamesFault : Statements → Ending → Type 0
NamesFault script e = IsFaultOf (codes "number" ∷ statements_faults script) e
