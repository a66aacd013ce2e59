-- What the checker answers of a driver: whether the certificate is closed, or the first clause that fails.
use Rattle.std.specs.Prelude.{ℕ, List, Result, Ok, Err}
use Rattle.sdv_graph.specs.Graph.{Graph}
use Rattle.sdv_facts.specs.Facts.{PointFacts}
use Rattle.sdv_facts.specs.declared.clause.Clause.{Clause}
use Rattle.sdv_facts.specs.declared.clause.Clause.TheVariants as clauses
use Rattle.sdv_check.specs.declared.fault.CheckFault.{CheckFault}
use Rattle.sdv_check.specs.declared.fault.CheckFault.TheVariants.{Points, Start, Illegal, Address, Shape, Number, Bound, EndState}
use Rattle.sdv_driver.specs.Tree.{Entry}
use Rattle.sdv_calls.specs.Closed.{rest_of, PartsMatch, CallsCover, PartsFail, DriverClosed}

-- a point fails
abbrev pub FailsAtPoint : (numbers : ℕ) → List Entry → List Graph → List PointFacts → Clause → ℕ → Type 0
FailsAtPoint n es gs ps clause i =
    PartsMatch n gs ps × CallsCover es gs (rest_of gs ps) ps × PartsFail (rest_of gs ps) gs ps 0 clause i

abbrev pub DriverFails : (numbers : ℕ) → List Entry → List Graph → List PointFacts → CheckFault → Type 0
DriverFails n es gs ps Points = PartsMatch n gs ps → ⊥
DriverFails n es gs ps Start = PartsMatch n gs ps × (CallsCover es gs (rest_of gs ps) ps → ⊥)
DriverFails n es gs ps (Illegal i) = FailsAtPoint n es gs ps clauses.Illegal i
DriverFails n es gs ps (Address i) = FailsAtPoint n es gs ps clauses.Address i
DriverFails n es gs ps (Shape i) = FailsAtPoint n es gs ps clauses.Shape i
DriverFails n es gs ps (Number i) = FailsAtPoint n es gs ps clauses.Number i
DriverFails n es gs ps (Bound i) = FailsAtPoint n es gs ps clauses.Bound i
DriverFails n es gs ps (EndState i) = FailsAtPoint n es gs ps clauses.EndState i

abbrev pub DriverChecked : (numbers : ℕ) → List Entry → List Graph → List PointFacts → Result (Unit {0}) CheckFault → Type 0
DriverChecked n es gs ps (Ok done) = DriverClosed n es gs ps
DriverChecked n es gs ps (Err fault) = DriverFails n es gs ps fault
