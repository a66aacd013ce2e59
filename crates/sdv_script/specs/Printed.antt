-- What is printed of a script: the tokens of its text as they are written there, with one space after each, and then a
-- line feed.
use Rattle.std.specs.Prelude.{ℕ, zero, suc, List, [], ◌∷◌, ◌++◌, length, take, drop, false}
use Rattle.sdv_script.specs.declared.token.Token.{Token as Read}
use Rattle.sdv_script.specs.declared.token.Token.TheVariants as read
use Rattle.sdv_script.specs.declared.cursor.Cursor.{Cursor}
use Rattle.sdv_script.specs.Tokens.{after_gap, first_found}

-- how the first token is written, and those after it
abbrev pub pieces_by : (List ℕ → List (List ℕ)) → List ℕ → List (List ℕ)
pieces_by others [] = []
pieces_by others (b ∷ bs) = take (first_found (b ∷ bs)).1 (b ∷ bs) ∷ others (drop (first_found (b ∷ bs)).1 (b ∷ bs))

-- how the first n tokens are written
unfoldable pub first_pieces : ℕ → List ℕ → List (List ℕ)
first_pieces zero text = []
first_pieces (suc n) text = pieces_by (first_pieces n) (after_gap false text)

-- how the tokens of a text are written
unfoldable pub pieces : List ℕ → List (List ℕ)
pieces text = first_pieces (length text) text

abbrev pub printed_pieces : List (List ℕ) → List ℕ
printed_pieces [] = 10 ∷ []
printed_pieces (p ∷ ps) = p ++ 32 ∷ printed_pieces ps

abbrev pub printed : List ℕ → List ℕ
printed text = printed_pieces (pieces text)

-- from a place on
abbrev pub piece_list : Read → List ℕ → List (List ℕ) → List (List ℕ)
piece_list read.End piece others = []
piece_list token piece others = piece ∷ others

abbrev pub pieces_at : Cursor → List (List ℕ)
pieces_at cursor = piece_list cursor.token cursor.text.now (pieces cursor.rest.now)
