use Rattle.std.proofs.Common.{◌≡◌, ◌++◌, ◌∙◌, ap, append_assoc, decimal}
use Rattle.std.specs.Prelude.{codes}
use Rattle.std.proofs.lemmas.Result.{on_ok_weaker}
use Rattle.sdv_telling.specs.Statements.{Text}
use Rattle.sdv_decode.proofs.line_words.put_row.Goals as goal

-- a text behind three pieces at once
flat : (a n b rest : Text) → (a ++ (n ++ b)) ++ rest ≡ a ++ (n ++ (b ++ rest))
flat a n b rest = append_assoc a (n ++ b) rest ∙ ap (λ (t : Text). a ++ t) (append_assoc n b rest)

two : (old one new a b : Text) → one ≡ old ++ a → new ≡ one ++ b → new ≡ old ++ (a ++ b)
two old one new a b p q = q ∙ (ap (λ (t : Text). t ++ b) p ∙ append_assoc old a b)

three : (old one new a n b rest : Text) → one ≡ old ++ (a ++ (n ++ b)) → new ≡ one ++ rest → new ≡ old ++ (a ++ (n ++ (b ++ rest)))
three old one new a n b rest p q = two old one new (a ++ (n ++ b)) rest p q ∙ ap (λ (t : Text). old ++ t) (flat a n b rest)

pub returns : goal.returns
returns c =
    on_ok_weaker c.put.result
    (λ added.
    three c.args.text.now.items c.put_numbered.new.text.items c.put.new.text.items (codes "<g transform=\"translate(0 ") (decimal c.args.number)
    (codes "0)\">\n") _ c.in_ok-put_numbered.ensures
    (three c.put_numbered.new.text.items c.put_numbered-2.new.text.items c.put.new.text.items
    (codes "<text x=\"4\" y=\"3.4\" font-size=\"2.4\">script line ") (decimal c.args.script_line) (codes "</text>") _ c.in_ok-put_numbered-2.ensures
    (three c.put_numbered-2.new.text.items c.put_numbered-3.new.text.items c.put.new.text.items
    (codes "<text x=\"4\" y=\"7\" font-size=\"2\" fill=\"gray\">trace line ") (decimal c.args.number) (codes "</text>\n") _ c.in_ok-put_numbered-3.ensures
    (two c.put_numbered-3.new.text.items c.extend_from_slice.new.self.items c.put.new.text.items c.args.drawn.now (codes "</g>\n")
    c.in_ok-extend_from_slice.ensures.items added))))
    c.put.ensures
