-- The failures of points, point by point.
use Rattle.std.proofs.Common.{◌≡◌, ℕ, ◌+◌, List, [], ◌∷◌, ◌++◌, ◌⊎◌, inl, inr, refl, subst, sym, All, below_more, arith}
use Rattle.std.proofs.lemmas.List.Elements.{All-push}
use Rattle.sdv_graph.specs.Graph.{Graph}
use Rattle.sdv_facts.specs.Facts.{PointFacts}
use Rattle.sdv_explain.specs.declared.failing.Failure.{Failure}
use Rattle.sdv_explain.proofs.MemberLaws.{left_one, right_one}
use Rattle.sdv_explain.specs.Failing.{AreFailuresUpTo, FailsBelow, IsAmong, IsFailure, IsFine}

wider : (g : Graph) (ps : List PointFacts) (n : ℕ) (failures : List Failure) → All (FailsBelow g ps n) failures → All (FailsBelow g ps (n + 1)) failures
wider g ps n failures each i d lt =
    let h = each i d lt in
    record { point = h.point; below = omega (arith, h.below); fails = h.fails }

-- one more point is fine
pub fine_more : (g : Graph) (ps : List PointFacts) (n : ℕ) (failures new : List Failure) → AreFailuresUpTo g ps n failures → IsFine g ps n
    → new ≡ failures → AreFailuresUpTo g ps (n + 1) new
fine_more g ps n failures new h fine same =
    subst (λ (l : List Failure). AreFailuresUpTo g ps (n + 1) l) (sym same)
    (record { each = wider g ps n failures h.each; all = below_more (λ p. IsFine g ps p ⊎ IsAmong g ps p failures) n h.all (inl fine) })

-- or fails
pub failing_more : (g : Graph) (ps : List PointFacts) (n : ℕ) (failures new : List Failure) (f : Failure) → AreFailuresUpTo g ps n failures
    → IsFailure g ps n f → new ≡ failures ++ f ∷ [] → AreFailuresUpTo g ps (n + 1) new
failing_more g ps n failures new f h fails same =
    subst (λ (l : List Failure). AreFailuresUpTo g ps (n + 1) l) (sym same)
    (record {
      each = All-push (FailsBelow g ps (n + 1)) failures f (wider g ps n failures h.each) here;
      all = below_more (λ p. IsFine g ps p ⊎ IsAmong g ps p (failures ++ f ∷ [])) n
          (λ p lt. elim (h.all p lt) [
            | inl fine ↦ inl fine
            | inr a ↦ inr (record { failure = a.failure; one = record { one = left_one failures (f ∷ []) a.failure a.one.one }; fails = a.fails })
          ])
          (inr (record { failure = f; one = record { one = right_one failures (f ∷ []) f (inl refl) }; fails = fails }));
    })
  where
    here : FailsBelow g ps (n + 1) f
    here = record { point = n; below = omega arith; fails = fails }
