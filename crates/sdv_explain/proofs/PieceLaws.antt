-- Three pieces of a text, one after another.
use Rattle.std.proofs.Common.{◌≡◌, ◌++◌, append_assoc, ap, ◌∙◌, Result, Ok, Err, OnOk}
use Rattle.sdv_telling.specs.Statements.{Text}

pub three_pieces : {E : Type 0} (r : Result (Unit {0}) E) (old one two three a b c : Text) → one ≡ old ++ a → two ≡ one ++ b
    → OnOk r (three ≡ two ++ c) → OnOk r (three ≡ old ++ (a ++ (b ++ c)))
three_pieces (Ok u) old one two three a b c p q r =
    r ∙ ap (λ (l : Text). l ++ c) (q ∙ ap (λ (l : Text). l ++ b) p) ∙ append_assoc (old ++ a) b c ∙ append_assoc old a (b ++ c)
three_pieces (Err e) old one two three a b c p q r = tt
