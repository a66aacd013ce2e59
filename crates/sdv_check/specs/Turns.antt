-- The bound clause along an edge, decided at the worst turns alone.
-- Bounds are this project's own.
use Rattle.std.specs.Prelude.{ℕ, zero, suc, ◌+◌, ◌*◌, ◌-◌, ◌≤◌, List, [], ◌∷◌, reverse, Option, Some, None, IfSome}
use Rattle.sdv_graph.specs.declared.graph.Target.{Target}
use Rattle.sdv_graph.specs.Nested.{Pass, Same, Again, Over}
use Rattle.sdv_graph.specs.Path.{left}
use Rattle.sdv_facts.specs.Facts.{PointFacts}

-- the most by which a target's bound exceeds a source's over the loops that they share: all turns left where a turn
-- costs more at the target, and none where it does not
abbrev pub excess : (target source most : List ℕ) → ℕ
excess ct cs [] = 0
excess [] cs (n ∷ most) = 0
excess (a ∷ ct) [] (n ∷ most) = a * n + excess ct [] most
excess (a ∷ ct) (b ∷ cs) (n ∷ most) = (a - b) * n + excess ct cs most

-- the most turns that are left after a pass; none where it has no turns to begin with
abbrev pub most_after : Pass → List ℕ → Option (List ℕ)
most_after Same most = Some most
most_after Again (suc n ∷ most) = Some (n ∷ most)
most_after Over (n ∷ most) = Some (zero ∷ most)
most_after pass most = None

-- what the turn that is taken costs at the source
abbrev pub turn_taken : Pass → List ℕ → ℕ
turn_taken Again (b ∷ cs) = b
turn_taken pass cs = 0

-- what the turns of a loop that is entered cost at the target
abbrev pub entering : Option ℕ → List ℕ → ℕ
entering None ct = 0
entering (Some n) [] = 0
entering (Some n) (a ∷ ct) = a * n

-- the loops that the target shares
abbrev pub inside : Option ℕ → List ℕ → List ℕ
inside None ct = ct
inside (Some n) [] = []
inside (Some n) (a ∷ ct) = ct

-- the costs of the loops round a point, the innermost first
abbrev pub costs : PointFacts → List ℕ
costs p = reverse p.turns.items

-- the bound falls at the worst turns
pub record FallsAtWorst (p q : PointFacts) (most : List ℕ) (sent : ℕ) (pass : Pass) (t : Target) : Type 0 where
  pub worst : IfSome (most_after pass most) (λ m.
      q.base + sent + entering t.enter (costs q) + excess (inside t.enter (costs q)) (left t.leave (costs p))
      (left t.leave m)
      ≤ p.base + turn_taken pass (costs p))
