use Rattle.std.proofs.Common.{◌≡◌, ◌-◌, suc, subst, arith}
use Rattle.sdv_table.specs.Fits.{CasesFit}
use Rattle.sdv_table.specs.Reading.{cases_of}
use Rattle.sdv_table.proofs.Lengths.{cases_more}
use Rattle.sdv_table.proofs.loading.+cases_fit.Goals as goal

pub returns-then-target_fits-clause-yes : goal.returns-then-target_fits-clause-yes
returns-then-target_fits-clause-yes t c = λ e.
    let one : c.args.count ≡ suc (c.args.count - 1) = omega arith in
    let rest = subst (λ ws. CasesFit c.args.points (cases_of (c.args.count - 1) ws)) c.from_place.ensures (c.cases_fit.ensures.yes e) in
    let fits = c.target_fits.ensures.yes c.if-target_fits.true in
    cases_more c.args.points (c.args.count - 1) c.args.count c.args.words.now one
    (rw c.target_at.ensures at fits) rest
