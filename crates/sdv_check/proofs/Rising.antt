-- Items read one behind the other: shapes that rise, and items that each meet a condition.
use Rattle.std.proofs.Common.{◌≡◌, ℕ, suc, ◌<◌, ◌≤◌, ◌^◌, true, List, [], ◌∷◌, get_or, Option, Some, None, All, arith, ltb-true, lt-ltb, refl}
use Rattle.std.specs.List.{AllByRecursion}
use Rattle.std.proofs.lemmas.List.Elements.{All-from_recursion, recursion_from_All}
use Rattle.std.proofs.lemmas.List.Kept.{AllPairs-cons}
use Rattle.sdv_card.specs.declared.shape.Shape.{Shape}
use Rattle.sdv_facts.specs.Facts.{AreRising}
use Rattle.sdv_check.specs.Reading.{is_above}
use Rattle.sdv_check.proofs.Codes.{IsNext}
use Rattle.sdv_check.proofs.Lists.{Each}

all_above : (n : ℕ) (last : Shape) (xs : List Shape) → n ≤ last.0 → Each IsNext (Some last) xs → AllByRecursion (λ s. n < s.0) xs
all_above n last [] le e = tt
all_above n last (x ∷ xs) le e =
    let more : last.0 < x.0 = ltb-true last.0 x.0 e.0.above in
    (omega arith, all_above n x xs (omega arith) e.1)

pub rising : (last : Option Shape) (xs : List Shape) → Each IsNext last xs → AreRising xs
rising last [] e = λ i j d lt within. absurd (omega arith)
rising last (x ∷ xs) e =
    AllPairs-cons (λ a b. a.0 < b.0) x xs (All-from_recursion (λ s. x.0 < s.0) xs (all_above x.0 x xs (omega arith) e.1)) (rising (Some x) xs e.1)

pub fitting : (last : Option Shape) (xs : List Shape) → Each IsNext last xs → AllByRecursion (λ s. s.0 < 2 ^ 64) xs
fitting last [] e = tt
fitting last (x ∷ xs) e = (e.0.fits, fitting (Some x) xs e.1)

pub next_each : (last : Option Shape) (xs : List Shape) → AreRising xs → AllByRecursion (λ s. s.0 < 2 ^ 64) xs → AllByRecursion (λ s. is_above last s ≡ true) xs
    → Each IsNext last xs
next_each last [] rise fits above = tt
next_each last (x ∷ xs) rise fits above =
    let others : AreRising xs = λ i j d lt within. rise (suc i) (suc j) d (omega arith) (omega arith) in
    let over : All (λ s. is_above (Some x) s ≡ true) xs = λ i d within. lt-ltb x.0 (get_or xs i d).0 (rise 0 (suc i) d (omega arith) (omega arith)) in
    (record { above = above.0; fits = fits.0 }, next_each (Some x) xs others fits.1 (recursion_from_All (λ s. is_above (Some x) s ≡ true) xs over))

pub first_above : (xs : List Shape) → AllByRecursion (λ s. is_above None s ≡ true) xs
first_above [] = tt
first_above (x ∷ xs) = (refl, first_above xs)

pub each_all : {A : Type 0} (P : A → Type 0) (last : Option A) (xs : List A) → Each (λ before. P) last xs → AllByRecursion P xs
each_all P last [] e = tt
each_all P last (x ∷ xs) e = (e.0, each_all P (Some x) xs e.1)

pub all_each : {A : Type 0} (P : A → Type 0) (last : Option A) (xs : List A) → AllByRecursion P xs → Each (λ before. P) last xs
all_each P last [] e = tt
all_each P last (x ∷ xs) e = (e.0, all_each P (Some x) xs e.1)
