use Rattle.std.proofs.Common.{◌≡◌, ap, refl, sym, ◌∙◌, Some, None, if◌then◌else◌, List, [], ◌∷◌, true, false}
use Rattle.sdv_text.specs.Fronts.{◌>>=◌}
use Rattle.sdv_graph.specs.Tree.{Declared, Statements, statements_of}
use Rattle.sdv_script.specs.Place.{names_of, tokens_at}
use Rattle.sdv_script.specs.Reading.{whole_if}
use Rattle.sdv_script.specs.Rules.{statements_fall}
use Rattle.sdv_script.specs.TokenView.{list_of}
use Rattle.sdv_script.specs.Tokens.{Token, tokens}
use Rattle.sdv_script.proofs.reading.body.Goals as goal

-- statements that do not fall off their end, and nothing behind them
whole_there : (names : Declared) (body : Statements) (ts : List Token) → ts ≡ [] → statements_fall body ≡ false
    → whole_if names body ts ≡ Some (names, body)
whole_there names body [] end stay = ap (λ falls. if falls then None else Some (names, body)) stay
whole_there names body (t ∷ ts) end stay = absurd (cc)

-- statements that fall off their end are no body, whatever is behind them
whole_falls : (names : Declared) (body : Statements) (ts : List Token) → statements_fall body ≡ true → whole_if names body ts ≡ None
whole_falls names body [] falls = ap (λ falls. if falls then None else Some (names, body)) falls
whole_falls names body (t ∷ ts) falls = refl

pub returns-then-block_falls : goal.returns-then-block_falls
returns-then-block_falls c =
    let names = names_of c.args.names.now in
    ap (λ read. read >>= λ b. whole_if names b.0 b.1.tokens) c.in_ok-body.ensures
    ∙ whole_falls names (statements_of c.in_ok-body.body) (tokens_at c.statements.new.from.at) (sym c.block_falls.ensures ∙ c.if-block_falls.true)

pub returns : goal.returns
returns c =
    let names = names_of c.args.names.now in
    let at = c.statements.new.from.at in
    let end = ap (λ t. list_of t (tokens at.rest.now)) c.in-End.is in
    ap (λ read. read >>= λ b. whole_if names b.0 b.1.tokens) c.in_ok-body.ensures
    ∙ whole_there names (statements_of c.in_ok-body.body) (tokens_at at) end (sym c.block_falls.ensures ∙ c.if-block_falls.false)
