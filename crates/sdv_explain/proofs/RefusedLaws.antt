-- The shape at which a refusal is explained, among the shapes of a point.
use Rattle.std.proofs.Common.{ℕ, zero, suc, ◌<◌, ◌↔◌, List, [], ◌∷◌, length, get_or, inl, inr, refl, arith}
use Rattle.sdv_card.specs.declared.shape.Shape.{Shape}
use Rattle.sdv_card.specs.Lists.{May, IsOneOf}

pub one_there : (shapes : List Shape) (i : ℕ) (d : Shape) → i < length shapes → May shapes (get_or shapes i d)
one_there shapes i d lt = record { one = one shapes i lt }
  where
    one : (xs : List Shape) (i : ℕ) → i < length xs → IsOneOf xs (get_or xs i d)
    one [] i lt = absurd (omega arith)
    one (x ∷ xs) zero lt = inl refl
    one (x ∷ xs) (suc i) lt = inr (one xs i (omega arith))

-- what is so of each shape of a list of one is so by itself
pub at_one_shape : {P : Type 0} (s : Shape) → ((t : Shape) → May (s ∷ []) t → P) ↔ P
at_one_shape s = (λ f. f s (record { one = inl refl }), λ p t m. p)

pub iff_twice : {A B C : Type 0} → A ↔ B → B ↔ C → A ↔ C
iff_twice f g = (λ a. g.0 (f.0 a), λ c. f.1 (g.1 c))
