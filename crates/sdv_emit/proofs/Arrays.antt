-- The array of a table is read as its words.
use Rattle.std.proofs.Common.{lit<, ◌≡◌, ℕ, zero, suc, ◌+◌, ◌^◌, ◌<◌, ◌≤◌, true, List, [], ◌∷◌, ◌++◌, length, take, drop, slice_index, Bool, Some, None, refl, sym, ap, ◌∙◌, arith, append_assoc}
use Rattle.std.proofs.Math.Seq.{drop-cons}
use Rattle.std.proofs.lemmas.List.{drop-drop, take-append-drop}
use Rattle.std.specs.Prelude.{if◌then◌else◌}
use Rattle.std.specs.List.{list_all}
use Rattle.sdv_graph.specs.Graph.{Graph}
use Rattle.sdv_graph.specs.Path.{Point}
use Rattle.sdv_table.specs.Table.{header_size}
use Rattle.sdv_emit.specs.CText.{Text, word_lines, point_line, point_words, rows_text, array_text}
use Rattle.sdv_telling.specs.Numbered.{numbered}
use Rattle.sdv_emit.specs.Reading.{Code, uncommented, is_outside, read_array, with_word}
use Rattle.sdv_emit.specs.declared.array.TheConstants.{ROWS, ARRAY_END}
use Rattle.sdv_emit.proofs.Constants.{AreWords, inside, with_words, with_words_is, lines_read, head_read}

-- PARTS OF WORDS

words_taken : (n : ℕ) (ws : List ℕ) → AreWords ws → AreWords (take n ws)
words_taken zero ws are = tt
words_taken (suc n) [] are = tt
words_taken (suc n) (w ∷ ws) are = (are.0, words_taken n ws are.1)

words_dropped : (n : ℕ) (ws : List ℕ) → AreWords ws → AreWords (drop n ws)
words_dropped zero ws are = are
words_dropped (suc n) [] are = tt
words_dropped (suc n) (w ∷ ws) are = words_dropped n ws are.1

word_at : (i : ℕ) (ws : List ℕ) → AreWords ws → slice_index ws i < 2 ^ 32
word_at i [] are = lit< tt
word_at zero (w ∷ ws) are = are.0
word_at (suc i) (w ∷ ws) are = word_at i ws are.1

-- THE WORDS OF POINTS

abbrev heads_from : List ℕ → ℕ → List Point → List ℕ
heads_from ws n [] = []
heads_from ws n (p ∷ ps) = slice_index ws (header_size + n) ∷ heads_from ws (suc n) ps

heads_taken : (ws : List ℕ) (n : ℕ) (ps : List Point) → header_size + n + length ps ≤ length ws
    → heads_from ws n ps ≡ take (length ps) (drop (header_size + n) ws)
heads_taken ws n [] room = refl
heads_taken ws n (p ∷ ps) room =
    let lt : header_size + n < length ws = omega (arith, room) in
    let next : suc (header_size + n) ≡ header_size + suc n = omega arith in
    let further : header_size + suc n + length ps ≤ length ws = omega (arith, room) in
    ap (λ (l : List ℕ). slice_index ws (header_size + n) ∷ l) (heads_taken ws (suc n) ps further)
    ∙ (ap (λ (m : ℕ). slice_index ws (header_size + n) ∷ take (length ps) (drop m ws)) (sym next)
    ∙ ap (take (suc (length ps))) (sym (drop-cons ws (header_size + n) 0 lt)))

points_read : (g : Graph) (ws : List ℕ) (n : ℕ) (ps : List Point) (rest : Text) → AreWords ws
    → inside (numbered (point_line g ws) n ps ++ rest) ≡ with_words (heads_from ws n ps) (inside rest)
points_read g ws n [] rest are = refl
points_read g ws n (p ∷ ps) rest are =
    let about = point_words g.names n (slice_index g.lines n) p.action in
    ap inside (append_assoc (point_line g ws n p) (numbered (point_line g ws) (suc n) ps) rest)
    ∙ (head_read (slice_index ws (header_size + n)) about (numbered (point_line g ws) (suc n) ps ++ rest) (word_at (header_size + n) ws are)
    ∙ ap (with_word (Some (slice_index ws (header_size + n)))) (points_read g ws (suc n) ps rest are))

-- ROWS, AND THE END

rows_begun : (rest : Text) → inside (ROWS.now ++ rest) ≡ inside rest
unfolding uncommented read_array
rows_begun rest = refl

array_ended : (rest : Text) → list_all is_outside (uncommented Code rest) ≡ true → inside (ARRAY_END.now ++ rest) ≡ Some []
unfolding uncommented read_array
array_ended rest outside = ap (λ (b : Bool). if b then Some [] else None) outside

append_nothing : (xs : List ℕ) → xs ++ [] ≡ xs
append_nothing [] = refl
append_nothing (x ∷ xs) = ap (λ l. x ∷ l) (append_nothing xs)

rows_read : (ws : List ℕ) (rest : Text) → AreWords ws → list_all is_outside (uncommented Code rest) ≡ true → inside (rows_text ws ++ rest) ≡ Some ws
rows_read ws rest are outside =
    rows_begun ((word_lines 0 ws ++ ARRAY_END.now) ++ rest)
    ∙ (ap inside (append_assoc (word_lines 0 ws) ARRAY_END.now rest)
    ∙ (lines_read 0 ws (ARRAY_END.now ++ rest) are
    ∙ (ap (with_words ws) (array_ended rest outside) ∙ (with_words_is ws [] ∙ ap Some (append_nothing ws)))))

-- ALL OF THEM

parts : (ws : List ℕ) (m : ℕ) → take header_size ws ++ (take m (drop header_size ws) ++ drop (header_size + m) ws) ≡ ws
parts ws m =
    ap (λ (l : List ℕ). take header_size ws ++ (take m (drop header_size ws) ++ l)) (sym (drop-drop m header_size ws))
    ∙ (ap (λ (l : List ℕ). take header_size ws ++ l) (take-append-drop m (drop header_size ws)) ∙ take-append-drop header_size ws)

-- with what follows it, in which there is neither a brace nor a quote
pub array_read : (g : Graph) (ws : List ℕ) (rest : Text) → AreWords ws → header_size + length g.points ≤ length ws
    → list_all is_outside (uncommented Code rest) ≡ true → inside (array_text g ws ++ rest) ≡ Some ws
array_read g ws rest are room outside =
    let enough : header_size + 0 + length g.points ≤ length ws = omega (arith, room) in
    let header = take header_size ws in
    let heads = heads_from ws 0 g.points in
    let rows = drop (header_size + length g.points) ws in
    let points = numbered (point_line g ws) 0 g.points in
    ap inside (append_assoc (word_lines 0 header) (points ++ rows_text rows) rest)
    ∙ (lines_read 0 header ((points ++ rows_text rows) ++ rest) (words_taken header_size ws are)
    ∙ (ap (λ (t : Text). with_words header (inside t)) (append_assoc points (rows_text rows) rest)
    ∙ (ap (with_words header) (points_read g ws 0 g.points (rows_text rows ++ rest) are
    ∙ (ap (with_words heads) (rows_read rows rest (words_dropped (header_size + length g.points) ws are) outside) ∙ with_words_is heads rows))
    ∙ (with_words_is header (heads ++ rows)
    ∙ ap Some (ap (λ (l : List ℕ). header ++ (l ++ rows)) (heads_taken ws 0 g.points enough) ∙ parts ws (length g.points))))))
