-- How long what is read is.
use Rattle.std.proofs.Common.{◌≡◌, ℕ, zero, suc, ◌%◌, ◌/◌, ◌==◌, ◌<◌, ◌≤◌, Bool, true, false, if◌then◌else◌, List, [], ◌∷◌, length, drop, slice_index, refl, ap, sym, subst, arith, inl, inr, ◌+◌}
use Rattle.std.proofs.lemmas.Bool.Decides.{eqb_tells}
use Rattle.sdv_card.specs.declared.guard.Guard.{Guard}
use Rattle.sdv_table.specs.Reading.{target_of, guard_of, guards_of, byte_at, name_of, cases_of}
use Rattle.sdv_table.specs.Loading.{IsPoint}
use Rattle.sdv_table.specs.Fits.{AreBytes, TargetFits, CasesFit}

pub length-name_of : (n : ℕ) (ws : List ℕ) → length (name_of n ws) ≡ n
length-name_of zero ws = refl
length-name_of (suc zero) ws = refl
length-name_of (suc (suc zero)) ws = refl
length-name_of (suc (suc (suc zero))) ws = refl
length-name_of (suc (suc (suc (suc n)))) ws = ap (λ m. suc (suc (suc (suc m)))) (length-name_of n (drop 1 ws))

pub length-cases_of : (n : ℕ) (ws : List ℕ) → length (cases_of n ws) ≡ n
length-cases_of zero ws = refl
length-cases_of (suc n) ws = ap (λ m. suc m) (length-cases_of n (drop 2 ws))

byte_small : (ws : List ℕ) (below : ℕ) → byte_at ws below < 256
byte_small ws below = omega arith

pub name_bytes : (n : ℕ) (ws : List ℕ) → AreBytes (name_of n ws)
name_bytes zero ws = tt
name_bytes (suc zero) ws = (byte_small ws 1, tt)
name_bytes (suc (suc zero)) ws = (byte_small ws 1, (byte_small ws 256, tt))
name_bytes (suc (suc (suc zero))) ws = (byte_small ws 1, (byte_small ws 256, (byte_small ws 65536, tt)))
name_bytes (suc (suc (suc (suc n)))) ws =
    (byte_small ws 1, (byte_small ws 256, (byte_small ws 65536, (byte_small ws 16777216, name_bytes n (drop 1 ws)))))

few_if : (b : Bool) (g : Guard) (gs : List Guard) (n : ℕ) → length gs ≤ n → length (if b then [] else g ∷ gs) ≤ suc n
few_if true g gs n few = omega arith
few_if false g gs n few = omega arith

few_guards_of : (n w : ℕ) → length (guards_of n w) ≤ n
few_guards_of zero w = omega arith
few_guards_of (suc n) w = few_if (w == 0) (guard_of (w % 32)) (guards_of n (w / 32)) n (few_guards_of n (w / 32))

-- a case more
pub cases_more : (points m n : ℕ) (ws : List ℕ) → n ≡ suc m → TargetFits points (target_of (slice_index ws 1))
    → CasesFit points (cases_of m (drop 2 ws)) → CasesFit points (cases_of n ws)
cases_more points m n ws is fits more =
    subst (λ n. CasesFit points (cases_of n ws)) (sym is) (few_guards_of 6 (slice_index ws 0), fits, more)

-- a point more
pub points_more : (ws : List ℕ) (n i : ℕ) → ((j : ℕ) → j < n → IsPoint ws j) → IsPoint ws n → i < n + 1 → IsPoint ws i
points_more ws n i before here less = elim (eqb_tells i n) [
  | inl same ↦ subst (λ i. IsPoint ws i) (sym same.1) here
  | inr other ↦ let not = other.1 in before i (omega arith)
]
