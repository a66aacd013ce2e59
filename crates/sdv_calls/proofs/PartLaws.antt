-- The graphs of a driver, one after another.
use Rattle.std.proofs.Common.{◌≡◌, ◌+◌, ℕ, List, ◌∷◌, length, inr, Option, Some, None}
use Rattle.std.specs.Prelude.{MatchOption}
use Rattle.sdv_graph.specs.Graph.{Graph}
use Rattle.sdv_facts.specs.declared.clause.Clause.{Clause}
use Rattle.sdv_facts.specs.Facts.{Facts, PointFacts}
use Rattle.sdv_calls.specs.Closed.{points_here, points_behind, GraphClosed, PartsClosed, PartsFail}

abbrev pub Found : (rest : Facts) → List Graph → List PointFacts → (from : ℕ) → Option (ℕ × Clause) → Type 0
Found rest gs ps from o = MatchOption o (PartsClosed rest gs ps) (λ found. PartsFail rest gs ps from found.1 found.0)

-- no point of the first graph fails
later_here : (rest : Facts) (g : Graph) (gs : List Graph) (ps : List PointFacts) (from : ℕ) (o : Option (ℕ × Clause)) → GraphClosed rest g (points_here g ps)
    → Found rest gs (points_behind g ps) (from + length g.points) o → Found rest (g ∷ gs) ps from o
later_here rest g gs ps from None closed m = (closed, m)
later_here rest g gs ps from (Some found) closed m = inr (closed, m)

pub later : (rest rest_here rest_behind : Facts) (all : List Graph) (g : Graph) (gs : List Graph) (ps here behind : List PointFacts) (from count : ℕ) (o : Option (ℕ × Clause))
    → all ≡ g ∷ gs → here ≡ points_here g ps → behind ≡ points_behind g ps → rest_here ≡ rest → rest_behind ≡ rest → count ≡ length g.points
    → GraphClosed rest_here g here → Found rest_behind gs behind (from + count) o → Found rest all ps from o
later rest rest_here rest_behind all g gs ps here behind from count o a h b r s n closed m =
    rw a (later_here rest g gs ps from o (rw (← h, ← r) closed) (rw (← b, ← s, ← n) m))
