-- In which order 16 buffers were used.
use Rattle.std.specs.Prelude.{◌≡◌, ◌==◌, ◌<◌, ◌++◌, ◌∷◌, [], not, ℕ, List, filter, count_by, length, All}

-- each index below 16 stands there once
pub record IsOrder (indexes : List ℕ) : Type 0 where
  pub count : length indexes ≡ 16
  pub known : All (λ index. index < 16) indexes
  pub once : (index : ℕ) → index < 16 → count_by (λ other. other == index) indexes ≡ 1

-- an index that is used goes behind the others, which keep their order
abbrev pub used : List ℕ → (index : ℕ) → List ℕ
used indexes index = filter (λ other. not (other == index)) indexes ++ index ∷ []
