-- Lines of a description, and its end.
use Rattle.std.proofs.Common.{◌≡◌, ℕ, true, false, List, [], ◌∷◌, ◌++◌, Option, Some, refl, sym, ap, ◌∙◌}
use Rattle.sdv_text.specs.Fronts.{◌>>=◌, after, is_end}
use Rattle.sdv_text.proofs.FrontLaws.{bind_some, after_takes, after_again}
use Rattle.sdv_behavior.specs.Reading.{read_line}

pub ends : (rest : List ℕ) → is_end rest ≡ true → [] ≡ rest
ends [] e = refl
ends (b ∷ bs) e = absurd (let f : false ≡ true = e in cc)

pub line_takes : (words bs rest : List ℕ) → read_line words bs ≡ Some rest → words ++ 10 ∷ rest ≡ bs
line_takes words bs rest e =
    let p = bind_some (after words bs) (after (10 ∷ [])) rest e in
    ap (λ (l : List ℕ). words ++ l) (sym (after_takes (10 ∷ []) p.0 rest p.2)) ∙ sym (after_takes words bs p.0 p.1)

pub line_again : (words bs rest : List ℕ) → words ++ 10 ∷ rest ≡ bs → read_line words bs ≡ Some rest
line_again words bs rest e =
    ap (λ (l : List ℕ). read_line words l) (sym e) ∙ ap (λ (r : Option (List ℕ)). r >>= after (10 ∷ [])) (after_again words (10 ∷ rest))
