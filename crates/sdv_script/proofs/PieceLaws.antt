-- How the tokens of a text are written, token by token.
use Rattle.std.proofs.Common.{◌≡◌, ℕ, zero, suc, ◌<◌, ◌≤◌, false, List, [], ◌∷◌, length, take, drop, refl, sym, ap, ◌∙◌, arith}
use Rattle.std.proofs.lemmas.List.{length-drop}
use Rattle.sdv_script.specs.declared.token.Token.{Token as Read}
use Rattle.sdv_script.specs.declared.token.Token.TheVariants as read
use Rattle.sdv_script.specs.TokenView.{IsThere}
use Rattle.sdv_script.specs.Tokens.{first_found, after_gap}
use Rattle.sdv_script.specs.Printed.{pieces_by, first_pieces, pieces, piece_list}
use Rattle.sdv_script.proofs.TokensLaws.{first_found-one, after_gap-le}

same_by : (f g : List ℕ → List (List ℕ)) (text : List ℕ) → ((rest : List ℕ) → length rest < length text → f rest ≡ g rest) → pieces_by f text ≡ pieces_by g text
same_by f g [] same = refl
same_by f g (b ∷ bs) same =
    let left = length-drop (first_found (b ∷ bs)).1 (b ∷ bs) in
    let one = first_found-one b bs in
    ap (λ (ps : List (List ℕ)). take (first_found (b ∷ bs)).1 (b ∷ bs) ∷ ps) (same (drop (first_found (b ∷ bs)).1 (b ∷ bs)) (omega arith))

nothing_by : (others : List ℕ → List (List ℕ)) (text : List ℕ) → length text ≤ 0 → pieces_by others text ≡ []
nothing_by others [] le = refl
nothing_by others (b ∷ bs) le = absurd (omega arith)

enough : (m n : ℕ) (text : List ℕ) → length text ≤ m → length text ≤ n → first_pieces m text ≡ first_pieces n text
unfolding first_pieces
enough zero zero text p q = refl
enough zero (suc n) text p q = let short = after_gap-le text false in sym (nothing_by (first_pieces n) (after_gap false text) (omega arith))
enough (suc m) zero text p q = let short = after_gap-le text false in nothing_by (first_pieces m) (after_gap false text) (omega arith)
enough (suc m) (suc n) text p q =
    let short = after_gap-le text false in
    same_by (first_pieces m) (first_pieces n) (after_gap false text) (λ rest lt. enough m n rest (omega arith) (omega arith))

first_is : (n : ℕ) (text : List ℕ) → length text ≤ suc n → first_pieces (suc n) text ≡ pieces_by pieces (after_gap false text)
unfolding first_pieces pieces
first_is n text le =
    let short = after_gap-le text false in
    same_by (first_pieces n) pieces (after_gap false text) (λ rest lt. enough n (length rest) rest (omega arith) (omega arith))

pub pieces_is : (text : List ℕ) → pieces text ≡ pieces_by pieces (after_gap false text)
unfolding pieces
pieces_is text = enough (length text) (suc (length text)) text (omega arith) (omega arith) ∙ first_is (length text) text (omega arith)

pub pieces_none : (text : List ℕ) → length text ≡ 0 → pieces_by pieces text ≡ []
pieces_none text e = nothing_by pieces text (omega arith)

piece_list-there : (t : Read) (piece : List ℕ) (others : List (List ℕ)) → IsThere t → piece_list t piece others ≡ piece ∷ others
piece_list-there (read.Key keyword) piece others there = refl
piece_list-there (read.Name text) piece others there = refl
piece_list-there read.Dotted piece others there = refl
piece_list-there (read.Number value) piece others there = refl
piece_list-there (read.Mark s) piece others there = refl
piece_list-there read.Stray piece others there = refl
piece_list-there read.End piece others there = absurd there

pub pieces_some : (t : Read) (text : List ℕ) → 0 < length text → IsThere t
    → piece_list t (take (first_found text).1 text) (pieces (drop (first_found text).1 text)) ≡ pieces_by pieces text
pieces_some t [] lt there = absurd (omega arith)
pieces_some t (b ∷ bs) lt there = piece_list-there t _ _ there
