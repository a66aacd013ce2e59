-- The lines of the tokens of a text, token by token.
use Rattle.std.proofs.Common.{◌≡◌, ℕ, zero, suc, ◌+◌, ◌-◌, ◌<◌, ◌≤◌, min, false, List, [], ◌∷◌, length, take, drop, count_by, refl, sym, ap, ◌∙◌, arith}
use Rattle.std.proofs.lemmas.List.{length-drop, length-take}
use Rattle.std.proofs.lemmas.List.Sums.{count_by-le-length}
use Rattle.sdv_script.specs.Faults.{is_line_feed}
use Rattle.sdv_script.specs.declared.token.Token.{Token as Read}
use Rattle.sdv_script.specs.declared.token.Token.TheVariants as read
use Rattle.sdv_script.specs.TokenView.{IsThere}
use Rattle.sdv_script.specs.Tokens.{Token, first_found, after_gap, tokens_by, first_tokens, tokens}
use Rattle.sdv_script.specs.Lines.{line_behind, gap_of, lines_by, first_lines, token_lines}
use Rattle.sdv_script.specs.FoundLines.{line_list}
use Rattle.sdv_script.proofs.TokensLaws.{first_found-one, after_gap-le}

abbrev Lines : Type 0
Lines = ℕ → List ℕ → List ℕ

same_by : (f g : Lines) (line : ℕ) (text : List ℕ) → ((l : ℕ) (rest : List ℕ) → length rest < length text → f l rest ≡ g l rest) → lines_by f line text ≡ lines_by g line text
same_by f g line [] same = refl
same_by f g line (b ∷ bs) same =
    let n = (first_found (b ∷ bs)).1 in
    let left = length-drop n (b ∷ bs) in
    let one = first_found-one b bs in
    ap (λ (ls : List ℕ). line ∷ ls) (same (line_behind line (take n (b ∷ bs))) (drop n (b ∷ bs)) (omega arith))

nothing_by : (others : Lines) (line : ℕ) (text : List ℕ) → length text ≤ 0 → lines_by others line text ≡ []
nothing_by others line [] le = refl
nothing_by others line (b ∷ bs) le = absurd (omega arith)

enough : (m n line : ℕ) (text : List ℕ) → length text ≤ m → length text ≤ n → first_lines m line text ≡ first_lines n line text
unfolding first_lines
enough zero zero line text p q = refl
enough zero (suc n) line text p q = let short = after_gap-le text false in sym (nothing_by (first_lines n) _ (after_gap false text) (omega arith))
enough (suc m) zero line text p q = let short = after_gap-le text false in nothing_by (first_lines m) _ (after_gap false text) (omega arith)
enough (suc m) (suc n) line text p q =
    let short = after_gap-le text false in
    same_by (first_lines m) (first_lines n) _ (after_gap false text) (λ l rest lt. enough m n l rest (omega arith) (omega arith))

first_is : (n line : ℕ) (text : List ℕ) → length text ≤ suc n
    → first_lines (suc n) line text ≡ lines_by token_lines (line_behind line (gap_of text)) (after_gap false text)
unfolding first_lines token_lines
first_is n line text le =
    let short = after_gap-le text false in
    same_by (first_lines n) token_lines _ (after_gap false text) (λ l rest lt. enough n (length rest) l rest (omega arith) (omega arith))

-- the lines of the tokens of a text are that of the first, and those of what follows it
pub lines_is : (line : ℕ) (text : List ℕ) → token_lines line text ≡ lines_by token_lines (line_behind line (gap_of text)) (after_gap false text)
unfolding token_lines
lines_is line text = enough (length text) (suc (length text)) line text (omega arith) (omega arith) ∙ first_is (length text) line text (omega arith)

pub lines_none : (line : ℕ) (text : List ℕ) → length text ≡ 0 → lines_by token_lines line text ≡ []
lines_none line text e = nothing_by token_lines line text (omega arith)

line_list-there : (t : Read) (line : ℕ) (others : List ℕ) → IsThere t → line_list t line others ≡ line ∷ others
line_list-there (read.Key keyword) line others there = refl
line_list-there (read.Name text) line others there = refl
line_list-there read.Dotted line others there = refl
line_list-there (read.Number value) line others there = refl
line_list-there (read.Mark s) line others there = refl
line_list-there read.Stray line others there = refl
line_list-there read.End line others there = absurd there

pub lines_some : (t : Read) (line : ℕ) (text : List ℕ) → 0 < length text → IsThere t
    → line_list t line (token_lines (line_behind line (take (first_found text).1 text)) (drop (first_found text).1 text)) ≡ lines_by token_lines line text
lines_some t line [] lt there = absurd (omega arith)
lines_some t line (b ∷ bs) lt there = line_list-there t line _ there

-- where n bytes are a gap, in front of the first token: no line is above a greatest one
pub behind_gap : (line n : ℕ) (text gap rest : List ℕ) (here most : ℕ) → n ≤ length text → gap ≡ take n text → rest ≡ drop n text
    → drop n text ≡ after_gap false text → here ≡ min (line + count_by is_line_feed gap) most → line + length text ≤ most
    → lines_by token_lines here rest ≡ token_lines line text
behind_gap line n text gap rest here most within front back ends e room =
    let few = count_by-le-length is_line_feed gap in
    let short : length gap ≤ n = (let l = ap length front ∙ length-take n text in omega (arith, l)) in
    let left = length-drop n text in
    let same : length text - length (after_gap false text) ≡ n = (let l = ap length ends in omega (arith, l, left, within)) in
    let begins : here ≡ line_behind line (gap_of text) =
    omega (arith, e, few, short, room, within, ap (λ (m : ℕ). count_by is_line_feed (take m text)) same, ap (count_by is_line_feed) front) in
    ap (λ (l : ℕ). lines_by token_lines l rest) begins
    ∙ ap (λ (bs : List ℕ). lines_by token_lines (line_behind line (gap_of text)) bs) (back ∙ ends) ∙ sym (lines_is line text)

-- each token has a line
many_by : (f : Lines) (g : List ℕ → List Token) (line : ℕ) (text : List ℕ) → ((l : ℕ) (rest : List ℕ) → length (f l rest) ≡ length (g rest))
    → length (lines_by f line text) ≡ length (tokens_by g text)
many_by f g line [] same = refl
many_by f g line (b ∷ bs) same = omega (arith, same (line_behind line (take (first_found (b ∷ bs)).1 (b ∷ bs))) (drop (first_found (b ∷ bs)).1 (b ∷ bs)))

many : (n line : ℕ) (text : List ℕ) → length (first_lines n line text) ≡ length (first_tokens n text)
unfolding first_lines first_tokens
many zero line text = refl
many (suc n) line text = many_by (first_lines n) (first_tokens n) _ (after_gap false text) (λ l rest. many n l rest)

pub length-token_lines : (line : ℕ) (text : List ℕ) → length (token_lines line text) ≡ length (tokens text)
unfolding token_lines tokens
length-token_lines line text = many (length text) line text
