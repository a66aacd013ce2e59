use Rattle.std.proofs.Common.{◌∙◌, ◌+◌, ◌++◌, length, drop, sym, ap, subst, List, ℕ}
use Rattle.std.specs.Io.KnownBytes.{Appends}
use Rattle.std.proofs.lemmas.List.{length-map}
use Rattle.sdv_text.specs.Written.{AppendsPart}
use Rattle.sdv_facts.specs.CertificateText.{text_of}
use Rattle.sdv_facts.specs.Shared.{point_in, points_in, certificate_in}
use Rattle.sdv_certify.specs.Pieces.{title_text, line_text, lines_text}
use Rattle.sdv_certify.proofs.Written.{failed, same_certificate, text_is, title_failed, one_more, one_failed, next_point, no_point, all_written, same_text}
use Rattle.sdv_certify.proofs.writing.write.Goals as goal

pub returns-in_err-put_title : goal.returns-in_err-put_title
returns-in_err-put_title g c =
    let sets = c.shown.result.0.now in
    let points = c.shown.result.1.now in
    let version = c.version-version.result in
    same_text c.from_residual.result _ _ _ _ (ap text_of (same_certificate sets version points c.args.certificate.now c.version-version.ensures c.shown.ensures.value))
    (title_failed c.from_residual.result _ _ (certificate_in sets version points) c.from_residual.ensures.0
    (subst (λ n. AppendsPart (g.W.Write.contents c.args.out.now) (g.W.Write.contents c.put_title.new.out) (title_text version n)) (sym (length-map points (point_in sets))) c.in_err-put_title.ensures))

pub loop-place-init : goal.loop-place-init
loop-place-init g c =
    let sets = c.shown.result.0.now in
    let points = c.shown.result.1.now in
    let version = c.version-version.result in (
      title_text version (length (points_in sets points)),
      text_is (certificate_in sets version points),
      subst (λ n. Appends (g.W.Write.contents c.args.out.now) (g.W.Write.contents c.put_title.new.out) (title_text version n)) (sym (length-map points (point_in sets))) c.in_ok-put_title.ensures,
    )

pub returns-in_err-put_line : goal.returns-in_err-put_line
returns-in_err-put_line g c =
    let i = c.loop-place.invariant in
    let sets = c.shown.result.0.now in
    let points = c.shown.result.1.now in
    let version = c.version-version.result in
    let text = text_of (certificate_in sets version points) in
    let place = c.loop-place.place in
    let e = i.1 ∙ ap (λ (l : List ℕ). i.0 ++ l)
    (next_point sets version points place c.index-points-place.result c.loop-place-test.true c.index-points-place.is) in
    same_text c.from_residual-in_err-put_line.result _ _ _ _
    (ap text_of (same_certificate sets version points c.args.certificate.now c.version-version.ensures c.shown.ensures.value))
    (failed c.from_residual-in_err-put_line.result _ _ text c.from_residual-in_err-put_line.ensures.0
    (one_failed _ _ _ text i.0 (line_text version place (point_in sets c.index-points-place.result))
    (lines_text version (place + 1) (drop (place + 1) (points_in sets points))) e i.2 c.in_err-put_line.ensures))

pub loop-place-preserved : goal.loop-place-preserved
loop-place-preserved g c =
    let i = c.loop-place.invariant in
    let sets = c.shown.result.0.now in
    let points = c.shown.result.1.now in
    let version = c.version-version.result in
    let place = c.loop-place.place in
    let e = i.1 ∙ ap (λ (l : List ℕ). i.0 ++ l)
    (next_point sets version points place c.index-points-place.result c.loop-place-test.true c.index-points-place.is) in
    one_more _ _ _ (text_of (certificate_in sets version points)) i.0 (line_text version place (point_in sets c.index-points-place.result))
    (lines_text version (place + 1) (drop (place + 1) (points_in sets points))) e i.2 c.in_ok-put_line.ensures

pub returns : goal.returns
returns g c =
    let i = c.loop-place.invariant in
    let sets = c.shown.result.0.now in
    let points = c.shown.result.1.now in
    let version = c.version-version.result in
    let same = same_certificate sets version points c.args.certificate.now c.version-version.ensures c.shown.ensures.value in
    all_written _ _ (text_of c.args.certificate.now) i.0 _ (ap text_of (sym same) ∙ i.1)
    (no_point sets version points c.loop-place.place c.loop-place-test.false) i.2
