use Rattle.std.proofs.Common.{◌≡◌, ◌∙◌, ◌∷◌, ◌++◌, [], List, sym, subst, ap, length, Some}
use Rattle.std.specs.Prelude.{slice_get}
use Rattle.std.proofs.lemmas.List.{map-append, nil_from_length}
use Rattle.sdv_facts.specs.Facts.{PointFacts}
use Rattle.sdv_facts.specs.Shared.{point_in, points_in}
use Rattle.sdv_facts.specs.declared.certificate.PointFacts.{PointFacts as SharedPoint}
use Rattle.sdv_check.proofs.CheckLaws.{in_limits}
use Rattle.sdv_calls.specs.Closed.{PartsMatch}
use Rattle.sdv_calls.proofs.DriverLaws.{not_empty, last_is, last_there}
use Rattle.sdv_calls.proofs.whole.said_of.Goals as goal

pub returns-in_default : goal.returns-in_default
returns-in_default c m =
    let none = nil_from_length c.shown.result.1.now c.in_default.ensures.cases in
    not_empty c.args.numbers c.args.graphs.now
    (subst (λ (ps : List PointFacts). PartsMatch c.args.numbers c.args.graphs.now ps)
    (sym c.shown.ensures.value ∙ ap (λ (qs : List SharedPoint). points_in c.shown.result.0.now qs) none) m)

pub returns : goal.returns
returns c =
    let n = c.args.numbers in
    let gs = c.args.graphs.now in
    let ps = c.args.certificate.now.points in
    let sets = c.shown.result.0.now in
    let front = c.in-Some.field-0-1.now in
    let last = c.in-Some.last.now in
    let matches : PartsMatch n gs ps = subst (λ (l : List PointFacts). PartsMatch n gs l) c.shown.ensures.value ((c.parts_match.ensures sets).0 c.if-not-parts_match.false) in
    let e : ps ≡ points_in sets front ++ point_in sets last ∷ []
    = sym c.shown.ensures.value ∙ ap (λ (qs : List SharedPoint). points_in sets qs) c.in-Some.ensures.cases.0 ∙ map-append (point_in sets) front (last ∷ []) in
    let is = last_is n gs (points_in sets front) ps (point_in sets last) e matches in
    let there : slice_get c.shown.result.1.now (length front) ≡ Some last
    = ap (λ (qs : List SharedPoint). slice_get qs (length front)) c.in-Some.ensures.cases.0 ∙ last_there front last in
    record {
      matches = matches;
      points = c.shown.ensures.value;
      rest = sym is.0;
      many = is.1;
      limits = (in_limits sets c.shown.result.1.now ps (length front) last c.shown.ensures.value c.shown.ensures.limits there).numbers;
    }
