-- What is asked alike of each shape of a point.
use Rattle.std.proofs.Common.{◌≢◌, List, [], ◌∷◌, Bool, IsTrue, ◌↔◌, length, refl}
use Rattle.sdv_card.specs.Lists.{May}
use Rattle.sdv_card.proofs.Members.{here}

-- what does not depend on the element holds of each exactly where it holds, if there is one
pub of_some : {A : Type 0} (P : Type 0) (xs : List A) (r : Bool) → length xs ≢ 0 → (IsTrue r ↔ P) → IsTrue r ↔ ((x : A) → May xs x → P)
of_some P [] r ne test = absurd (ne refl)
of_some P (y ∷ ys) r ne test = ((λ t x m. test.0 t), (λ f. test.1 (f y (here refl))))
