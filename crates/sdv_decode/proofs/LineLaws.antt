-- Lines of a text, byte by byte.
use Rattle.std.proofs.Common.{◌≡◌, ◌∙◌, ℕ, List, [], ◌∷◌, ◌++◌, refl, sym, ap, append_assoc}
use Rattle.std.proofs.lemmas.List.{append-nil}
use Rattle.sdv_decode.specs.Lines.{before_first}

-- bytes before the first line
abbrev pub with_front : List ℕ → List (List ℕ) → List (List ℕ)
with_front [] lines = lines
with_front (b ∷ bs) [] = (b ∷ bs) ∷ []
with_front (b ∷ bs) (first ∷ lines) = ((b ∷ bs) ++ first) ∷ lines

pub feed_behind : (line : List ℕ) (lines : List (List ℕ)) → with_front line ([] ∷ lines) ≡ line ∷ lines
feed_behind [] lines = refl
feed_behind (b ∷ bs) lines = ap (λ (l : List ℕ). l ∷ lines) (append-nil (b ∷ bs))

pub byte_behind : (line : List ℕ) (byte : ℕ) (lines : List (List ℕ)) → with_front line (before_first byte lines) ≡ with_front (line ++ byte ∷ []) lines
byte_behind [] byte [] = refl
byte_behind [] byte (l ∷ ls) = refl
byte_behind (b ∷ bs) byte [] = refl
byte_behind (b ∷ bs) byte (l ∷ ls) = ap (λ (x : List ℕ). x ∷ ls) (sym (append_assoc (b ∷ bs) (byte ∷ []) l))

-- the lines so far, and those that are left
module _ (all done : List (List ℕ)) where
  pub feed_read : (line : List ℕ) (rest : List (List ℕ)) → done ++ with_front line ([] ∷ rest) ≡ all → (done ++ line ∷ []) ++ rest ≡ all
  feed_read line rest so_far = append_assoc done (line ∷ []) rest ∙ (ap (λ (l : List (List ℕ)). done ++ l) (sym (feed_behind line rest)) ∙ so_far)

  pub byte_read : (line : List ℕ) (byte : ℕ) (rest : List (List ℕ)) → done ++ with_front line (before_first byte rest) ≡ all
      → done ++ with_front (line ++ byte ∷ []) rest ≡ all
  byte_read line byte rest so_far = ap (λ (l : List (List ℕ)). done ++ l) (sym (byte_behind line byte rest)) ∙ so_far
