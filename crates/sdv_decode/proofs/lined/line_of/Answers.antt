use Rattle.std.proofs.Common.{◌∙◌, ◌++◌, ℕ, List, ap, lit<, sym}
use Rattle.std.proofs.lemmas.Fmt.{decimal_digit}
use Rattle.std.specs.Prelude.{codes}
use Rattle.sdv_card.specs.declared.state.Width.{Width}
use Rattle.sdv_audit.specs.Spelling.{line_text}
use Rattle.sdv_audit.specs.declared.line.TraceLine.TheVariants.{Lines}
use Rattle.sdv_decode.specs.Lined.{fed}
use Rattle.sdv_decode.proofs.lined.line_of.Goals as goal

pub returns-in-One : goal.returns-in-One
returns-in-One c =
    sym (ap (λ (digits : List ℕ). fed (codes "LINES " ++ digits)) (decimal_digit 1 (lit< tt)))
    ∙ ap (λ (now : Width). fed (line_text (Lines now))) (sym c.in-One.is)

pub returns-in-Four : goal.returns-in-Four
returns-in-Four c =
    sym (ap (λ (digits : List ℕ). fed (codes "LINES " ++ digits)) (decimal_digit 4 (lit< tt)))
    ∙ ap (λ (now : Width). fed (line_text (Lines now))) (sym c.in-Four.is)

pub returns-in-Eight : goal.returns-in-Eight
returns-in-Eight c =
    sym (ap (λ (digits : List ℕ). fed (codes "LINES " ++ digits)) (decimal_digit 8 (lit< tt)))
    ∙ ap (λ (now : Width). fed (line_text (Lines now))) (sym c.in-Eight.is)
