-- The clauses of a point of a driver, by those of a script and what is asked at a `done`.
use Rattle.std.proofs.Common.{ℕ, List, Option, Some, None}
use Rattle.std.specs.Prelude.{MatchOption}
use Rattle.sdv_registers.specs.declared.kind.Kind.{Kind}
use Rattle.sdv_graph.specs.Path.{Action, Point, stops}
use Rattle.sdv_graph.specs.Walk.{Finished}
use Rattle.sdv_facts.specs.declared.clause.Clause.{Clause}
use Rattle.sdv_facts.specs.declared.clause.Clause.TheVariants.{Illegal, Address, Shape as ShapeMissing, Number, Bound, EndState}
use Rattle.sdv_facts.specs.Closed.{PointClosed, FirstFails}
use Rattle.sdv_facts.specs.Facts.{Facts, PointFacts}
use Rattle.sdv_calls.specs.Closed.{ShapesRest, EachRests, carried_to, HoldsHere, EachHolds, FirstFailing}

-- what is asked at a `done` is asked nowhere else
pub shapes_fail : (rest : Facts) (k : Kind) (ps : List PointFacts) (action : Action) (most : List ℕ) (p : PointFacts)
    → (ShapesRest action rest p.facts.shapes → ⊥) → FirstFailing (HoldsHere rest k ps (record { action = action; most = most }) p) ShapeMissing
shapes_fail rest k ps (stops Finished) most p fails = ((λ s may. tt), (λ s may. tt), (λ h. fails h.1))
shapes_fail rest k ps action most p fails = absurd (fails (λ s may. tt))

pub numbers_fail : (rest : Facts) (k : Kind) (ps : List PointFacts) (action : Action) (most : List ℕ) (p : PointFacts)
    → ShapesRest action rest p.facts.shapes → (EachRests action rest (carried_to rest p.facts.numbers) p.facts.shapes → ⊥)
    → FirstFailing (HoldsHere rest k ps (record { action = action; most = most }) p) Number
numbers_fail rest k ps (stops Finished) most p shapes fails = ((λ s may. tt), (λ s may. tt), ((λ s may. tt), shapes), (λ h. fails h.1))
numbers_fail rest k ps action most p shapes fails = absurd (fails (λ s may. tt))

module _ (rest : Facts) (k : Kind) (ps : List PointFacts) (place : Point) (p : PointFacts) (shapes : ShapesRest place.action rest p.facts.shapes)
    (numbers : EachRests place.action rest (carried_to rest p.facts.numbers) p.facts.shapes) where
  each_holds : PointClosed k ps place p → EachHolds (HoldsHere rest k ps place p)
  each_holds x = (x.legal, x.address, (x.shape, shapes), (x.number, numbers), x.bound, x.end_state)

  first_failing : (clause : Clause) → FirstFails clause k ps place p → FirstFailing (HoldsHere rest k ps place p) clause
  first_failing Illegal f = f
  first_failing Address f = f
  first_failing ShapeMissing f = (f.0, f.1, (λ h. f.2 h.0))
  first_failing Number f = (f.0, f.1, (f.2, shapes), (λ h. f.3 h.0))
  first_failing Bound f = (f.0, f.1, (f.2, shapes), (f.3, numbers), f.4)
  first_failing EndState f = (f.0, f.1, (f.2, shapes), (f.3, numbers), f.4, f.5)

  pub matched : (o : Option Clause) → MatchOption o (PointClosed k ps place p) (λ clause. FirstFails clause k ps place p)
      → MatchOption o (EachHolds (HoldsHere rest k ps place p)) (λ clause. FirstFailing (HoldsHere rest k ps place p) clause)
  matched None m = each_holds m
  matched (Some clause) m = first_failing clause m
