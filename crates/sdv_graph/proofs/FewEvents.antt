-- A run that lasts so many moves has no more events.
use Rattle.std.proofs.Common.{◌≡◌, ℕ, zero, suc, ◌≤◌, inl, inr, sym, subst, arith, List, [], length}
use Rattle.sdv_registers.specs.declared.kind.Kind.{Kind}
use Rattle.sdv_card.specs.Host.{host_after}
use Rattle.sdv_graph.specs.Graph.{WhereverTo, Lasts}
use Rattle.sdv_graph.specs.Path.{Point, Stand, Move, Goes, Does, Halts, move_from, Follows, PathWithin}
use Rattle.sdv_graph.specs.Walk.{Pair, Ending}

module _ (k : Kind) (g : List Point) (e : Ending) where
  abbrev Few : (n j : ℕ) → Type 0
  Few n j = (s : Stand) (es : List Pair) → PathWithin k g e n s es → Lasts k g j s → length es ≤ j

  none : (es : List Pair) (j : ℕ) → es ≡ [] → length es ≤ j
  none es j is = subst (λ es. length es ≤ j) (sym is) (omega arith)

  followed : (n j : ℕ) (m : Move) (es : List Pair) → Few n j → Follows k e (PathWithin k g e n) m es → WhereverTo (Lasts k g j) m → length es ≤ suc j
  followed n j (Goes next) es later f w = let l = later next es f w in omega (arith, l)
  followed n j (Does deed before next) es later (event, returned, rest, is, may, same, on) w =
      let after = host_after k event returned before in
      let l : length rest ≤ j = later (next returned after) rest on (w returned after) in
      subst (λ es. length es ≤ suc j) (sym same) (omega (arith, l))
  followed n j (Halts last) es later f w = none es (suc j) f.0

  pub few_events : (n j : ℕ) → Few n j
  few_events zero j s es path lasts = absurd path
  few_events (suc n) zero s es path lasts = absurd lasts
  few_events (suc n) (suc j) s es (inl stop) lasts = none es (suc j) stop.0
  few_events (suc n) (suc j) s es (inr f) lasts = followed n j (move_from k g s) es (few_events n j) f lasts
