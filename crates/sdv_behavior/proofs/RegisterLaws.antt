-- What a simulator sends of a register is true, but for the bytes of an EXT_CSD that a switch changes.
use Rattle.std.proofs.Common.{◌≡◌, ℕ, zero, suc, ◌-◌, refl, sym, ap, ◌∙◌, true, List, [], ◌∷◌, ◌++◌, length, take, drop, replicate, arith}
use Rattle.sdv_card.specs.declared.state.Mode.{Mode}
use Rattle.sdv_card.specs.declared.state.Transfer.{Transfer}
use Rattle.sdv_card.specs.declared.state.Transfer.TheVariants.{ScrDue, SdStatusDue, ExtCsdDue}
use Rattle.sdv_card.specs.Card.{Partitions}
use Rattle.sdv_card.specs.Modes.{first_mode}
use Rattle.sdv_card.specs.Phases.{register_due, due_register, fixed}
use Rattle.sdv_behavior.specs.declared.card_desc.CardDesc.{CardDesc}
use Rattle.sdv_behavior.specs.Registers.{ext_csd_of}
use Rattle.sdv_behavior.specs.declared.card_state.CardState.{CardState}
use Rattle.sdv_behavior.specs.CardOf.{card_with}
use Rattle.sdv_behavior.specs.SimSteps.{register_of, padded}
use Rattle.sdv_behavior.proofs.CountLaw.{no}

-- A REGISTER with zeros after it
front : (register after : List ℕ) (count : ℕ) → take (length register) (take count (register ++ after)) ≡ take count register
front [] after zero = refl
front [] after (suc count) = refl
front (x ∷ register) after zero = refl
front (x ∷ register) after (suc count) = ap (λ xs. x ∷ xs) (front register after count)

padded_true : (register bytes : List ℕ) → bytes ≡ padded register (length bytes) → take (length register) bytes ≡ take (length bytes) register
padded_true register bytes e = ap (λ b. take (length register) b) e ∙ front register (replicate (length bytes) 0) (length bytes)

-- FRONTS of registers

-- the front of nothing
no_front : (n : ℕ) → ◌≡◌ {A = List ℕ} (take n []) []
no_front zero = refl
no_front (suc n) = refl

-- a front of a front is the same the other way round
swapped : (m n : ℕ) (xs : List ℕ) → take m (take n xs) ≡ take n (take m xs)
swapped zero n xs = sym (no_front n)
swapped (suc m) zero xs = refl
swapped (suc m) (suc n) [] = refl
swapped (suc m) (suc n) (x ∷ xs) = ap (λ l. x ∷ l) (swapped m n xs)

-- what stands behind some bytes of a front
behind : (n m : ℕ) (xs : List ℕ) → drop n (take m xs) ≡ take (m - n) (drop n xs)
behind zero m xs = let e : m ≡ m - 0 = omega arith in ap (λ (k : ℕ). take k xs) e
behind (suc n) zero xs = let e : 0 ≡ 0 - suc n = omega arith in ap (λ (k : ℕ). take k (drop (suc n) xs)) e
behind (suc n) (suc m) [] = sym (no_front (suc m - suc n))
behind (suc n) (suc m) (x ∷ xs) = let e : m - n ≡ suc m - suc n = omega arith in behind n m xs ∙ ap (λ (k : ℕ). take k (drop n xs)) e

-- registers that agree but in bytes 179 and 183 have fronts that do
fixed_fronts : (n : ℕ) (xs ys : List ℕ) → take 179 xs ≡ take 179 ys → take 3 (drop 180 xs) ≡ take 3 (drop 180 ys) → drop 184 xs ≡ drop 184 ys →
    fixed ExtCsdDue (take n xs) ≡ fixed ExtCsdDue (take n ys)
fixed_fronts n xs ys first middle last =
    let a : take 179 (take n xs) ≡ take 179 (take n ys) = swapped 179 n xs ∙ (ap (λ (l : List ℕ). take n l) first ∙ swapped n 179 ys) in
    let b : take 3 (drop 180 (take n xs)) ≡ take 3 (drop 180 (take n ys)) =
    ap (λ (l : List ℕ). take 3 l) (behind 180 n xs)
    ∙ (swapped 3 (n - 180) (drop 180 xs)
    ∙ (ap (λ (l : List ℕ). take (n - 180) l) middle
    ∙ (swapped (n - 180) 3 (drop 180 ys) ∙ ap (λ (l : List ℕ). take 3 l) (sym (behind 180 n ys))))) in
    let c : drop 184 (take n xs) ≡ drop 184 (take n ys) =
    behind 184 n xs ∙ (ap (λ (l : List ℕ). take (n - 184) l) last ∙ sym (behind 184 n ys)) in
    ap (λ (l : List ℕ). l ∷ take 3 (drop 180 (take n xs)) ∷ drop 184 (take n xs) ∷ []) a
    ∙ (ap (λ (l : List ℕ). take 179 (take n ys) ∷ l ∷ drop 184 (take n xs) ∷ []) b
    ∙ ap (λ (l : List ℕ). take 179 (take n ys) ∷ take 3 (drop 180 (take n ys)) ∷ l ∷ []) c)

-- the EXT_CSD in a mode, beside that before the first command
modes_agree : (n : ℕ) (mode : Mode) (sectors boot : ℕ) →
    fixed ExtCsdDue (take n (ext_csd_of mode sectors boot)) ≡ fixed ExtCsdDue (take n (ext_csd_of first_mode sectors boot))
unfolding ext_csd_of
modes_agree n mode sectors boot = fixed_fronts n (ext_csd_of mode sectors boot) (ext_csd_of first_mode sectors boot) refl refl refl

same_length : (mode : Mode) (sectors boot : ℕ) → length (ext_csd_of mode sectors boot) ≡ length (ext_csd_of first_mode sectors boot)
unfolding ext_csd_of
same_length mode sectors boot = refl

ext_csd_true : (mode : Mode) (sectors boot : ℕ) (bytes : List ℕ) → bytes ≡ padded (ext_csd_of mode sectors boot) (length bytes) →
    fixed ExtCsdDue (take (length (ext_csd_of first_mode sectors boot)) bytes) ≡ fixed ExtCsdDue (take (length bytes) (ext_csd_of first_mode sectors boot))
ext_csd_true mode sectors boot bytes e =
    ap (λ (n : ℕ). fixed ExtCsdDue (take n bytes)) (sym (same_length mode sectors boot))
    ∙ (ap (λ (l : List ℕ). fixed ExtCsdDue l) (padded_true (ext_csd_of mode sectors boot) bytes e) ∙ modes_agree (length bytes) mode sectors boot)

-- WHAT IS SENT of the register that is due
pub register_true : (x : Transfer) (d : CardDesc) (s : CardState) (announced : ℕ) (contents : Partitions) (bytes : List ℕ) → register_due x ≡ true →
    bytes ≡ padded (register_of x d s.mode) (length bytes) →
    fixed x (take (length (due_register x (card_with d s announced contents))) bytes)
    ≡ fixed x (take (length bytes) (due_register x (card_with d s announced contents)))
register_true ScrDue d s announced contents bytes due e = ap (λ (l : List ℕ). fixed ScrDue l) (padded_true (register_of ScrDue d s.mode) bytes e)
register_true SdStatusDue d s announced contents bytes due e =
    ap (λ (l : List ℕ). fixed SdStatusDue l) (padded_true (register_of SdStatusDue d s.mode) bytes e)
register_true ExtCsdDue d s announced contents bytes due e = ext_csd_true s.mode d.sectors d.boot_size_mult bytes e
register_true x d s announced contents bytes due e = no due
