-- The case that an answer takes is one that may be taken, by what is seen of the answer.
use Rattle.std.proofs.Common.{◌≡◌, ◌⊎◌, inl, inr, refl, Bool, true, false, List, [], ◌∷◌, ◌&&◌, ◌||◌}
use Rattle.std.specs.Prelude.{if◌then◌else◌}
use Rattle.sdv_registers.specs.declared.kind.Kind.{Kind}
use Rattle.sdv_card.specs.declared.guard.Guard.{Guard}
use Rattle.sdv_card.specs.Guards.{passes, verdict, may_hold, may_fail}
use Rattle.sdv_card.specs.Laws.{VerdictHolds}
use Rattle.sdv_card.specs.ScriptEvent.{Return}
use Rattle.sdv_card.specs.Seen.{seen_of}
use Rattle.sdv_graph.specs.declared.graph.Target.{Target}
use Rattle.sdv_graph.specs.Path.{Case, way_of}
use Rattle.sdv_graph.specs.Walk.{all_pass}
use Rattle.sdv_facts.specs.Edges.{all_may_hold, one_may_fail, EachWay}

either : (b : Bool) (t u : Target) (P : Target → Type 0) → (b ≡ true → P t) → (b ≡ false → P u) → P (if b then t else u)
either true t u P p q = p refl
either false t u P p q = q refl

both : (a b : Bool) → a && b ≡ true → (a ≡ true) × (b ≡ true)
both true b e = (refl, e)
both false b e = absurd (cc)

and_true : (a b : Bool) → a ≡ true → b ≡ true → a && b ≡ true
and_true true b e f = f
and_true false b e f = absurd (cc)

or_first : (a b : Bool) → a ≡ true → a || b ≡ true
or_first true b e = refl
or_first false b e = absurd (cc)

or_second : (a b : Bool) → b ≡ true → a || b ≡ true
or_second true b e = refl
or_second false b e = e

failed_of : (a b : Bool) → a && b ≡ false → (a ≡ false) ⊎ (b ≡ false)
failed_of true b e = inr e
failed_of false b e = inl refl

module _ (k : Kind) (pending : Bool) (returned : Return) where
  -- what is said of each guard of a list
  abbrev pub AllHold : List Guard → Type 0
  AllHold [] = Unit {0}
  AllHold (g ∷ gs) = VerdictHolds k g pending returned × AllHold gs

  abbrev pub CasesHold : List Case → Type 0
  CasesHold [] = Unit {0}
  CasesHold (w ∷ ws) = AllHold w.guards × CasesHold ws

  all_held : (gs : List Guard) → AllHold gs → all_pass k gs returned ≡ true → all_may_hold gs (seen_of k pending returned) ≡ true
  all_held [] f e = refl
  all_held (g ∷ gs) f e =
      let p = both (passes k g returned) (all_pass k gs returned) e in
      and_true (may_hold (verdict g (seen_of k pending returned))) (all_may_hold gs (seen_of k pending returned)) (f.0.held p.0) (all_held gs f.1 p.1)

  one_failed : (gs : List Guard) → AllHold gs → all_pass k gs returned ≡ false → one_may_fail gs (seen_of k pending returned) ≡ true
  one_failed [] f e = absurd (cc)
  one_failed (g ∷ gs) f e =
      elim (failed_of (passes k g returned) (all_pass k gs returned) e) [
        | inl x ↦ or_first (may_fail (verdict g (seen_of k pending returned))) (one_may_fail gs (seen_of k pending returned)) (f.0.failed x)
        | inr x ↦ or_second (may_fail (verdict g (seen_of k pending returned))) (one_may_fail gs (seen_of k pending returned)) (one_failed gs f.1 x)
      ]

  pub way_taken : (ways : List Case) (other : Target) (P : Target → Type 0) → CasesHold ways → EachWay ways other (seen_of k pending returned) P
      → P (way_of k ways other returned)
  way_taken [] other P f p = p
  way_taken (w ∷ ws) other P f p =
      either (all_pass k w.guards returned) w.target (way_of k ws other returned) P (λ e. p.0 (all_held w.guards f.0 e))
      (λ e. way_taken ws other P f.1 (p.1 (one_failed w.guards f.0 e)))
