-- What is small enough for its bits.
use Rattle.std.proofs.Common.{◌≡◌, ℕ, zero, suc, ◌-◌, ◌<◌, ◌≤◌, List, [], ◌∷◌, length, take, drop, slice_index, arith, lit<}
use Rattle.sdv_card.specs.declared.guard.Guard.{Guard}
use Rattle.sdv_card.specs.declared.guard.Guard.TheVariants.{State as InState}
use Rattle.sdv_card.specs.declared.state.State.{State}
use Rattle.sdv_card.specs.declared.state.State.TheVariants as states
use Rattle.sdv_card.specs.States.{state_number}
use Rattle.sdv_table.specs.Row.{guard_code, guards_word}
use Rattle.sdv_table.specs.Fits.{AreBytes}

state_small : (s : State) → state_number s < 9
state_small states.Idle = lit< tt
state_small states.Ready = lit< tt
state_small states.Ident = lit< tt
state_small states.Stby = lit< tt
state_small states.Tran = lit< tt
state_small states.Data = lit< tt
state_small states.Rcv = lit< tt
state_small states.Prg = lit< tt
state_small states.Dis = lit< tt

pub guard_small : (g : Guard) → (0 < guard_code g) × (guard_code g < 32)
guard_small (InState s) = let x = state_small s in (omega arith, omega arith)
guard_small guard = (lit< tt, lit< tt)

-- five guards have 25 bits
pub few_guards : (gs : List Guard) → length gs ≤ 5 → guards_word gs < 33554432
few_guards [] h = lit< tt
few_guards (a ∷ []) h = let x = guard_small a in omega arith
few_guards (a ∷ b ∷ []) h = let x = guard_small a in let y = guard_small b in omega arith
few_guards (a ∷ b ∷ c ∷ []) h = let x = guard_small a in let y = guard_small b in let z = guard_small c in omega arith
few_guards (a ∷ b ∷ c ∷ d ∷ []) h =
    let x = guard_small a in let y = guard_small b in let z = guard_small c in let u = guard_small d in omega arith
few_guards (a ∷ b ∷ c ∷ d ∷ e ∷ []) h =
    let x = guard_small a in let y = guard_small b in let z = guard_small c in let u = guard_small d in
    let v = guard_small e in omega arith
few_guards (a ∷ b ∷ c ∷ d ∷ e ∷ f ∷ gs) h = absurd (omega arith)

taken_few : (n : ℕ) (gs : List Guard) → length (take n gs) ≤ n
taken_few zero gs = omega arith
taken_few (suc n) [] = omega arith
taken_few (suc n) (g ∷ gs) = let x = taken_few n gs in omega arith

-- of at most six guards those after the first
pub others_small : (gs : List Guard) (w : ℕ) → length gs ≤ 6 → 1 ≤ length gs → w ≡ guards_word (take (length gs - 1) (drop 1 gs)) → w < 33554432
others_small gs w few some e =
    let x = taken_few (length gs - 1) (drop 1 gs) in
    let y = few_guards (take (length gs - 1) (drop 1 gs)) (omega arith) in
    omega arith

pub are_bytes : (bs : List ℕ) → ((i : ℕ) → slice_index bs i < 256) → AreBytes bs
are_bytes [] each = tt
are_bytes (b ∷ bs) each = (each 0, are_bytes bs (λ i. each (suc i)))
