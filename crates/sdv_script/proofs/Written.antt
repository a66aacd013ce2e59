-- What is written of a script, piece by piece.
use Rattle.std.proofs.Common.{◌≡◌, ℕ, List, [], ◌∷◌, ◌++◌, Option, Result, Ok, Err, sym, ap, ◌∙◌, append_assoc}
use Rattle.std.specs.Io.KnownBytes.{Appends}
use Rattle.sdv_text.specs.Written.{AppendsPart, Writes}
use Rattle.sdv_text.proofs.WrittenLaws.{appends_more, part_after, part_before}

pub piece_failed : (old mid new : Option (List ℕ)) (all written piece rest : List ℕ) → all ≡ written ++ (piece ++ 32 ∷ rest) → Appends old mid written
    → AppendsPart mid new (piece ++ 32 ∷ []) → AppendsPart old new all
piece_failed old mid new all written piece rest e p q =
    let spaced : all ≡ written ++ ((piece ++ 32 ∷ []) ++ rest) = e ∙ ap (λ l. written ++ l) (sym (append_assoc piece (32 ∷ []) rest)) in
    rw spaced (part_after old mid new written ((piece ++ 32 ∷ []) ++ rest) p (part_before mid new (piece ++ 32 ∷ []) rest q))

pub piece_done : (old mid new : Option (List ℕ)) (all written piece rest : List ℕ) → all ≡ written ++ (piece ++ 32 ∷ rest) → Appends old mid written
    → Appends mid new (piece ++ 32 ∷ [])
    → (w : List ℕ) × (all ≡ w ++ rest) × Appends old new w
piece_done old mid new all written piece rest e p q = (
  written ++ (piece ++ 32 ∷ []),
  e ∙ ap (λ l. written ++ l) (sym (append_assoc piece (32 ∷ []) rest)) ∙ sym (append_assoc written (piece ++ 32 ∷ []) rest),
  appends_more old mid new written (piece ++ 32 ∷ []) p q,
)

pub line_done : {E : Type 0} (r : Result (Unit {0}) E) (old mid new : Option (List ℕ)) (all written : List ℕ) → all ≡ written ++ 10 ∷ []
    → Appends old mid written
    → Writes mid new r (10 ∷ []) → Writes old new r all
line_done (Ok x) old mid new all written e p q = rw e (appends_more old mid new written (10 ∷ []) p q)
line_done (Err f) old mid new all written e p q = rw e (part_after old mid new written (10 ∷ []) p q)
