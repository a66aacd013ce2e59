-- What the checker answers: the bound of a certificate that is closed, or the first clause that fails.
use Rattle.std.specs.Prelude.{◌≡◌, ℕ, List, Result, Ok, Err}
use Rattle.sdv_graph.specs.Graph.{Graph}
use Rattle.sdv_facts.specs.Facts.{PointFacts}
use Rattle.sdv_facts.specs.declared.clause.Clause.TheVariants as clauses
use Rattle.sdv_facts.specs.Bounds.{bound_of}
use Rattle.sdv_facts.specs.Closed.{PointsMatch, StartCovers, FailsAt, Closed}
use Rattle.sdv_check.specs.declared.fault.CheckFault.{CheckFault}
use Rattle.sdv_check.specs.declared.fault.CheckFault.TheVariants.{Points, Start, Illegal, Address, Shape, Number, Bound, EndState}

-- points and start come before the points, one by one
abbrev pub Fails : Graph → List PointFacts → CheckFault → Type 0
Fails g ps Points = PointsMatch g ps → ⊥
Fails g ps Start = PointsMatch g ps × (StartCovers g ps → ⊥)
Fails g ps (Illegal i) = PointsMatch g ps × StartCovers g ps × FailsAt g ps clauses.Illegal i
Fails g ps (Address i) = PointsMatch g ps × StartCovers g ps × FailsAt g ps clauses.Address i
Fails g ps (Shape i) = PointsMatch g ps × StartCovers g ps × FailsAt g ps clauses.Shape i
Fails g ps (Number i) = PointsMatch g ps × StartCovers g ps × FailsAt g ps clauses.Number i
Fails g ps (Bound i) = PointsMatch g ps × StartCovers g ps × FailsAt g ps clauses.Bound i
Fails g ps (EndState i) = PointsMatch g ps × StartCovers g ps × FailsAt g ps clauses.EndState i

abbrev pub Checked : Graph → List PointFacts → Result ℕ CheckFault → Type 0
Checked g ps (Ok b) = Closed g ps × (b ≡ bound_of g ps)
Checked g ps (Err fault) = Fails g ps fault
