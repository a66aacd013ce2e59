use Rattle.std.proofs.Common.{◌≡◌, ◌∙◌, None, Err, ap, false, refl, rules, sym, true}
use Rattle.std.specs.Prelude.{is_some}
use Rattle.clap.specs.Walk.{texts}
use Rattle.sdv_program.specs.Requests.{seen}
use Rattle.sdv_commands.specs.Ends.{for_page, for_request}
use Rattle.sdv_commands.specs.Page.{asks_page}
use Rattle.sdv_commands.proofs.EndsLaws.{no_request}
use Rattle.sdv_commands.proofs.program.answer.Goals as goal

pub returns-in-Some : goal.returns-in-Some
returns-in-Some g c =
    let asked : asks_page (texts c.args.words.now) ≡ true = sym c.page_of.ensures ∙ ap is_some c.in-Some.is in
    for_page asked refl c.print_page.ensures

pub returns-in_err-request : goal.returns-in_err-request
returns-in_err-request g c =
    let words = texts c.args.words.now in
    let none : c.page_of.result ≡ None = search rules in
    let unasked : asks_page words ≡ false = sym c.page_of.ensures ∙ ap is_some none in
    no_request (g.S.Store.known c.args.files.now) _ words (g.O.Write.contents c.args.out.now) unasked c.in_err-request.field-0.0
    (λ is. c.in_err-request.ensures.usage (ap Err is)) c.from_residual.result c.from_residual.ensures.1

pub returns : goal.returns
returns g c = for_request (seen c.in_ok-request.request) c.in_ok-request.ensures.ok c.answer_request.ensures
