use Rattle.std.proofs.Common.{◌≡◌, ◌∙◌, ap, rules}
use Rattle.sdv_explain.specs.Misfits.{misfit_of}
use Rattle.sdv_explain.proofs.describing.misfit_for.Goals as goal

pub returns-in-Description : goal.returns-in-Description
returns-in-Description c =
    let same : c.misfit_in.result ≡ misfit_of c.args.text.now = c.misfit_in.ensures ∙ ap misfit_of c.as_bytes.ensures.value in
    search rules
