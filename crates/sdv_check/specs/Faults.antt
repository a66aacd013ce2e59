-- The fault of a clause that fails at a point.
use Rattle.std.specs.Prelude.{ℕ}
use Rattle.sdv_facts.specs.declared.clause.Clause.{Clause}
use Rattle.sdv_facts.specs.declared.clause.Clause.TheVariants as clauses
use Rattle.sdv_check.specs.declared.fault.CheckFault.{CheckFault}
use Rattle.sdv_check.specs.declared.fault.CheckFault.TheVariants.{Illegal, Address, Shape, Number, Bound, EndState}

abbrev pub fault_of : Clause → ℕ → CheckFault
fault_of clauses.Illegal i = Illegal i
fault_of clauses.Address i = Address i
fault_of clauses.Shape i = Shape i
fault_of clauses.Number i = Number i
fault_of clauses.Bound i = Bound i
fault_of clauses.EndState i = EndState i
