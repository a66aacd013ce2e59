-- A LINE FOR EACH of a list, by its number: the points of a script in a drawing, or in a table in C.
use Rattle.std.specs.Prelude.{ℕ, suc, List, [], ◌∷◌, ◌++◌}
use Rattle.sdv_telling.specs.Statements.{Text}

abbrev pub numbered : {X : Type 0} → (line : ℕ → X → Text) → (first : ℕ) → List X → Text
numbered line n [] = []
numbered line n (x ∷ xs) = line n x ++ numbered line (suc n) xs
