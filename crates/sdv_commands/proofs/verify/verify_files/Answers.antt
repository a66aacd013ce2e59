use Rattle.std.proofs.Common.{◌≡◌, ◌∙◌, arith, length, option_map, sym, subst, ap, List}
use Rattle.std.specs.Borrow.{Bor}
use Rattle.std.specs.Prelude.{slice_get}
use Rattle.std.proofs.lemmas.List.{length-map}
use Rattle.std.proofs.lemmas.Option.{slice_get-map, slice_get-get_or}
use Rattle.clap.specs.Words.{Text}
use native.Mathlib.Numerals.{unary_clauses}
use Rattle.sdv_program.specs.Outcomes.{outcome_of}
use Rattle.sdv_program.specs.Requests.{verify_names_of}
use Rattle.sdv_commands.specs.Verify.{AreVerified, IsUnsaved, IsWorst}
use Rattle.sdv_commands.proofs.ReportLaws.{reports}
use Rattle.sdv_commands.proofs.VerifyLaws.{worst_can}
use Rattle.sdv_commands.proofs.verify.verify_files.Goals as goal

pub loop-file-preserved : goal.loop-file-preserved
loop-file-preserved g c = simp unary_clauses (
  c.loop-file.worst,
  c.loop-file.invariant,
  record {
    file = _;
    named = slice_get-map (λ file. file.now) c.args.words.now.files.items c.loop-file.file-index
        ∙ ap (option_map (λ file. file.now))
        (ap (λ (files : List (Bor Text)). slice_get files c.loop-file.file-index) (sym c.deref-file-items.ensures.value)
        ∙ slice_get-get_or c.deref-file-items.result.now c.loop-file.file-index _ c.loop-file-test.true);
    told = c.in_ok-told.told;
    told_of = c.in_ok-told.ensures.told;
    worst = c.worse-worst.ensures;
  },
)

pub returns : goal.returns
returns g c =
    let known = g.S.Store.known c.args.files.now in
    let names = verify_names_of c.args.words.now in
    let here : length c.deref-file-items.result.now ≡ length names.files =
    ap length c.deref-file-items.ensures.value ∙ sym (length-map c.args.words.now.files.items (λ file. file.now)) in
    let end : c.loop-file.file-index ≡ length names.files = omega (arith, here, c.loop-file-test.false, c.loop-file.auto) in
    let all : IsWorst known names.allowed names.files (length names.files) c.loop-file.worst =
    subst (λ n. IsWorst known names.allowed names.files n c.loop-file.worst) end c.loop-file.invariant in
    reports (AreVerified known names) (IsUnsaved names) (g.O.Write.contents c.args.out.now) (g.O.Write.contents c.print_report.new.out)
    c.loop-file.worst c.deref.result.now (outcome_of c.print_report.result)
    (worst_can known names.allowed names.files (length names.files) c.loop-file.worst all) all c.print_report.ensures
