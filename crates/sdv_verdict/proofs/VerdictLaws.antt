-- A certificate that is closed fails at no clause, and the findings of a certificate are those of its script.
use Rattle.std.proofs.Common.{ℕ, List}
use Rattle.sdv_graph.specs.Graph.{Graph}
use Rattle.sdv_graph.specs.Path.{Point}
use Rattle.sdv_registers.specs.declared.kind.Kind.{Kind}
use Rattle.sdv_facts.specs.Facts.{PointFacts}
use Rattle.sdv_facts.specs.Closed.{Closed, FailsAt, FirstFails, PointClosed}
use Rattle.sdv_facts.specs.declared.clause.Clause.{Clause}
use Rattle.sdv_facts.specs.declared.clause.Clause.TheVariants as clauses
use Rattle.sdv_check.specs.Checked.{Fails}
use Rattle.sdv_check.specs.declared.fault.CheckFault.{CheckFault}
use Rattle.sdv_check.specs.declared.fault.CheckFault.TheVariants.{Points, Start, Illegal, Address, Shape, Number, Bound, EndState}

no_first : (clause : Clause) (k : Kind) (ps : List PointFacts) (place : Point) (p : PointFacts) → PointClosed k ps place p
    → FirstFails clause k ps place p → ⊥
no_first clauses.Illegal k ps place p closed fails = fails closed.legal
no_first clauses.Address k ps place p closed fails = fails.1 closed.address
no_first clauses.Shape k ps place p closed fails = fails.2 closed.shape
no_first clauses.Number k ps place p closed fails = fails.3 closed.number
no_first clauses.Bound k ps place p closed fails = fails.4 closed.bound
no_first clauses.EndState k ps place p closed fails = fails.5 closed.end_state

none_at : (g : Graph) (ps : List PointFacts) → Closed g ps → (clause : Clause) (i : ℕ) → FailsAt g ps clause i → ⊥
none_at g ps closed clause i f =
    no_first clause g.kind ps f.place f.facts (closed.each i f.place f.facts f.here f.known) f.fails

pub none_fails : (g : Graph) (ps : List PointFacts) → Closed g ps → (fault : CheckFault) → Fails g ps fault → ⊥
none_fails g ps closed Points fails = fails closed.points
none_fails g ps closed Start fails = fails.1 closed.start
none_fails g ps closed (Illegal i) fails = none_at g ps closed clauses.Illegal i fails.2
none_fails g ps closed (Address i) fails = none_at g ps closed clauses.Address i fails.2
none_fails g ps closed (Shape i) fails = none_at g ps closed clauses.Shape i fails.2
none_fails g ps closed (Number i) fails = none_at g ps closed clauses.Number i fails.2
none_fails g ps closed (Bound i) fails = none_at g ps closed clauses.Bound i fails.2
none_fails g ps closed (EndState i) fails = none_at g ps closed clauses.EndState i fails.2
