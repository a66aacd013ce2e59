-- The turns left of a place, the innermost loop first.
use Rattle.std.proofs.Common.{◌≡◌, ◌<◌, ◌≤◌, ◌-◌, ◌+◌, ℕ, zero, suc, List, ◌∷◌, length, Some, refl, ap, ◌∙◌, arith}
use Rattle.std.specs.Prelude.{slice_index, slice_set}
use Rattle.std.proofs.lemmas.List.{get_or-set_same, get_or-set_other}
use Rattle.sdv_graph.specs.declared.graph.Target.{Target}
use Rattle.sdv_graph.specs.Path.{left, entered, turns_at}
use Rattle.sdv_player.specs.Seen.{backward}

-- there are as many as loops
pub length_backward : (d : ℕ) (xs : List ℕ) → length (backward d xs) ≡ d
length_backward zero xs = refl
length_backward (suc d) xs = ap (λ n. suc n) (length_backward d xs)

-- loops are left
pub left_backward : (n d : ℕ) (xs : List ℕ) → left n (backward d xs) ≡ backward (d - n) xs
left_backward zero d xs = let e : d ≡ d - 0 = omega arith in ap (λ m. backward m xs) e
left_backward (suc n) zero xs = let e : 0 ≡ 0 - suc n = omega arith in ap (λ m. backward m xs) e
left_backward (suc n) (suc d) xs =
    let e : d - n ≡ suc d - suc n = omega arith in
    left_backward n d xs ∙ ap (λ m. backward m xs) e

-- a number that is set changes none before it
backward_set : (n d : ℕ) (xs : List ℕ) (t : ℕ) → n ≤ d → backward n (slice_set xs d t) ≡ backward n xs
backward_set zero d xs t le = refl
backward_set (suc n) d xs t le =
    let here : slice_index (slice_set xs d t) n ≡ slice_index xs n = get_or-set_other xs d n t 0 (λ e. omega (arith, e, le)) in
    let rest = backward_set n d xs t (omega (arith, le)) in
    ap (λ x. x ∷ backward n (slice_set xs d t)) here ∙ ap (λ r. slice_index xs n ∷ r) rest

-- the last one is set
backward_last : (d : ℕ) (xs : List ℕ) (t : ℕ) → d < length xs → backward (suc d) (slice_set xs d t) ≡ t ∷ backward d xs
backward_last d xs t lt =
    let here : slice_index (slice_set xs d t) d ≡ t = get_or-set_same xs d t 0 lt in
    let rest = backward_set d d xs t (omega arith) in
    ap (λ x. x ∷ backward d (slice_set xs d t)) here ∙ ap (λ r. t ∷ r) rest

pub backward_push : (n d : ℕ) (xs : List ℕ) (t : ℕ) → n ≡ d + 1 → d < length xs → backward n (slice_set xs d t) ≡ t ∷ backward d xs
backward_push n d xs t e lt =
    let same : n ≡ suc d = omega (arith, e) in
    ap (λ m. backward m (slice_set xs d t)) same ∙ backward_last d xs t lt

pub backward_head : (d : ℕ) (xs : List ℕ) → 0 < d → backward d xs ≡ slice_index xs (d - 1) ∷ backward (d - 1) xs
backward_head d xs some =
    let same : d ≡ suc (d - 1) = omega (arith, some) in
    ap (λ m. backward m xs) same

-- A TARGET
module _ (t : Target) (d : ℕ) (xs : List ℕ) where
  pub turns_outside : turns_at t (backward d xs) ≡ entered t.enter (backward (d - t.leave) xs)
  turns_outside = ap (λ ts. entered t.enter ts) (left_backward t.leave d xs)

  pub turns_inside : (n : ℕ) → t.enter ≡ Some n → turns_at t (backward d xs) ≡ n ∷ backward (d - t.leave) xs
  turns_inside n is = turns_outside ∙ ap (λ e. entered e (backward (d - t.leave) xs)) is

  pub many_turns : (n : ℕ) → t.enter ≡ Some n → length (turns_at t (backward d xs)) ≡ (d - t.leave) + 1
  many_turns n is =
      let long = length_backward (d - t.leave) xs in
      ap length (turns_inside n is) ∙ omega (arith, long)
