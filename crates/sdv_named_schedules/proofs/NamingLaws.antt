-- The value of an event before those of the events behind it.
use Rattle.std.proofs.Common.{◌≡◌, ◌<◌, ◌+◌, ◌++◌, ◌∙◌, [], ◌∷◌, ℕ, List, ap, sym, append_assoc, drop, length, None, false}
use Rattle.std.proofs.lemmas.List.{at_drop_more}
use Rattle.sdv_named_schedules.specs.declared.naming.SeenEvent.{SeenEvent}
use Rattle.sdv_named_schedules.specs.declared.naming.Placed.{Placed}
use Rattle.sdv_named_schedules.specs.Naming.{value_at, values_from}

values_step : (places : List Placed) (events : List SeenEvent) (n : ℕ) → n < length events
    → values_from n places (drop n events) ≡ value_at n places ∷ values_from (n + 1) places (drop (n + 1) events)
values_step places events n there =
    at_drop_more (values_from n places) events n (record { line = 0; command = None; app = false }) there

pub one_more : (places : List Placed) (events : List SeenEvent) (all done new : List ℕ) (n value : ℕ) → n < length events
    → value ≡ value_at n places → new ≡ done ++ value ∷ [] → done ++ values_from n places (drop n events) ≡ all
    → new ++ values_from (n + 1) places (drop (n + 1) events) ≡ all
one_more places events all done new n value there is grown so_far =
    let rest : List ℕ = values_from (n + 1) places (drop (n + 1) events) in
    ap (λ (xs : List ℕ). xs ++ rest) grown ∙ append_assoc done (value ∷ []) rest
    ∙ ap (λ (v : ℕ). done ++ v ∷ rest) is ∙ ap (λ (xs : List ℕ). done ++ xs) (sym (values_step places events n there)) ∙ so_far
