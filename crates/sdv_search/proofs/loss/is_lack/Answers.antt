use Rattle.std.proofs.Common.{ap, rules, sym, ◌≡◌, ◌∙◌, Some, subst}
use Rattle.std.specs.Prelude.{slice_get}
use Rattle.std.proofs.lemmas.Option.{slice_get-get_or}
use Rattle.sdv_search.specs.declared.ledger.Why.TheVariants.{Unstored}
use Rattle.sdv_search.specs.Losses.{IsLack}
use Rattle.sdv_search.proofs.loss.is_lack.Goals as goal

pub returns-in-Some : goal.returns-in-Some
returns-in-Some c t =
    let found = c.in-Some.ensures.lookup in
    let e : Unstored c.in-Unstored.number ≡ c.args.why = search rules in
    let there : slice_get c.args.input.now c.in-Unstored.number ≡ Some c.in-Some.given.now =
    slice_get-get_or c.args.input.now c.in-Unstored.number c.in-Some.given.now (found.3).0 ∙ ap Some (sym found.1) in
    let other : ¬ (c.in-Some.given.now ≡ c.args.there.now) = search rules in
    subst (λ w. IsLack w c.args.input.now c.args.was.now c.args.there.now) e (c.in-Some.given.now, there, other)
