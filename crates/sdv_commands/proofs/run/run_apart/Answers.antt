use Rattle.std.proofs.Common.{◌≡◌, sym, ap, subst, rules, List, ℕ, Option, None, option_map, true}
use Rattle.sdv_program.specs.Requests.{names_of}
use Rattle.sdv_program.specs.Files.{Files}
use Rattle.sdv_commands.specs.Run.{Receives}
use Rattle.sdv_commands.specs.RunImages.{image_given}
use Rattle.sdv_commands.proofs.RunLaws.{ended, ended_fails, finish_fails, kept_fails, made_fails, none_of, opened_of, run_ends, run_fails, unopened}
use Rattle.sdv_program.proofs.StartLaws.{keeps_same}
use Rattle.sdv_commands.proofs.run.run_apart.Goals as goal

pub returns-in_err-run_registered-in-None : goal.returns-in_err-run_registered-in-None
returns-in_err-run_registered-in-None g c =
    run_fails (g.S.Store.known c.args.files.now) (names_of c.args.names) _ _ c.in_err-run_registered-in-None.field-0.0 c.from_residual-in_err-run_registered-in-None.result
    c.from_residual-in_err-run_registered-in-None.ensures.1
    (kept_fails (g.S.Store.known c.args.files.now) (names_of c.args.names) c.in_ok-given.given
    (image_given g.S.Image.BlockFile.byte_count g.S.Image.BlockFile.blocks c.in_ok-given.image)
    c.in_ok-given.ensures.given _ _ c.in_err-run_registered-in-None.field-0.0 c.from_residual-in_err-run_registered-in-None.result
    c.in_err-run_registered-in-None.ensures.fails c.from_residual-in_err-run_registered-in-None.ensures.1)

-- without a file for the output
none_taken : (files : Files) (output : Option (List ℕ)) (bytes : List ℕ) → output ≡ None → Receives files output bytes
none_taken files output bytes is = rw is tt

pub returns-in-None : goal.returns-in-None
returns-in-None g c =
    let files : Files = g.S.Store.known c.args.files.now in
    let names = names_of c.args.names in
    let image = image_given g.S.Image.BlockFile.byte_count g.S.Image.BlockFile.blocks c.in_ok-given.image in
    let output : names.output ≡ None = ap (option_map (λ file. file.now)) c.in-None.is in
    let end = c.in_ok-run_registered-in-None.field-0.0 in
    let kept = c.in_ok-run_registered-in-None.ensures.kept in
    run_ends files names _ _ c.end_of.result
    (ended files names c.in_ok-given.given image c.in_ok-given.ensures.given _ _ _ _
    (λ bytes appends. none_taken files _ bytes output) end c.end_of.result c.end_of.ensures kept)
    (ended_fails files names c.in_ok-given.given image c.in_ok-given.ensures.given _ _ _ _
    (λ bytes appends. none_taken files _ bytes output) end c.end_of.result c.end_of.ensures kept)

pub returns-in_err-sink-in-Some : goal.returns-in_err-sink-in-Some
returns-in_err-sink-in-Some g c =
    run_fails (g.S.Store.known c.args.files.now) (names_of c.args.names) _ _ c.in_err-sink-in-Some.field-0.0 c.from_residual-in_err-sink-in-Some.result
    c.from_residual-in_err-sink-in-Some.ensures.1
    (made_fails (g.S.Store.known c.args.files.now) (names_of c.args.names) c.in_ok-given.given
    (image_given g.S.Image.BlockFile.byte_count g.S.Image.BlockFile.blocks c.in_ok-given.image)
    c.in_ok-given.ensures.given _ _ c.in-Some.file (ap (option_map (λ file. file.now)) c.in-Some.is)
    (c.create.ensures.uncreated (none_of c.create.result _ c.in_err-sink-in-Some.field-0.0 c.in_err-sink-in-Some.ensures.value)) (keeps_same _)
    c.in_err-sink-in-Some.field-0.0 (unopened c.create.result _ c.in_err-sink-in-Some.field-0.0 c.in_err-sink-in-Some.ensures.value)
    c.from_residual-in_err-sink-in-Some.result c.from_residual-in_err-sink-in-Some.ensures.1)

pub returns-in_err-end-in-Some : goal.returns-in_err-end-in-Some
returns-in_err-end-in-Some g c =
    run_fails (g.S.Store.known c.args.files.now) (names_of c.args.names) _ _ c.in_err-end-in-Some.field-0.0 c.from_residual-in_err-end-in-Some.result
    c.from_residual-in_err-end-in-Some.ensures.1
    (kept_fails (g.S.Store.known c.args.files.now) (names_of c.args.names) c.in_ok-given.given
    (image_given g.S.Image.BlockFile.byte_count g.S.Image.BlockFile.blocks c.in_ok-given.image)
    c.in_ok-given.ensures.given _ _ c.in_err-end-in-Some.field-0.0 c.from_residual-in_err-end-in-Some.result
    c.in_err-end-in-Some.ensures.fails c.from_residual-in_err-end-in-Some.ensures.1)

pub returns-then-not-finish : goal.returns-then-not-finish
returns-then-not-finish g c =
    finish_fails (g.S.Store.known c.args.files.now) (names_of c.args.names) c.in_ok-given.given
    (image_given g.S.Image.BlockFile.byte_count g.S.Image.BlockFile.blocks c.in_ok-given.image)
    c.in_ok-given.ensures.given _ _ c.in-Some.file (sym (ap (option_map (λ file. file.now)) c.in-Some.is))
    (c.finish.ensures.unfinished (search rules)) c.in_ok-end-in-Some.end
    _ _ c.in_ok-end-in-Some.ensures.kept

pub returns : goal.returns
returns g c =
    let files : Files = g.S.Store.known c.args.files.now in
    let names = names_of c.args.names in
    let image = image_given g.S.Image.BlockFile.byte_count g.S.Image.BlockFile.blocks c.in_ok-given.image in
    let whole : c.finish.result ≡ true = search rules in
    let made = opened_of c.create.result _ c.in_ok-sink-in-Some.sink (g.S.Store.opened c.args.files.now c.in-Some.file.now) c.in_ok-sink-in-Some.ensures.value
    c.create.ensures.made in
    let output = sym (ap (option_map (λ file. file.now)) c.in-Some.is) in
    let end = c.in_ok-end-in-Some.end in
    let kept = c.in_ok-end-in-Some.ensures.kept in
    run_ends files names _ _ c.end_of-in-Some.result
    (ended files names c.in_ok-given.given image c.in_ok-given.ensures.given _ _ _ _
    (λ bytes appends. subst (λ output. Receives files output bytes) output (c.finish.ensures.received whole c.in_ok-sink-in-Some.sink bytes made appends))
    end c.end_of-in-Some.result c.end_of-in-Some.ensures kept)
    (ended_fails files names c.in_ok-given.given image c.in_ok-given.ensures.given _ _ _ _
    (λ bytes appends. subst (λ output. Receives files output bytes) output (c.finish.ensures.received whole c.in_ok-sink-in-Some.sink bytes made appends))
    end c.end_of-in-Some.result c.end_of-in-Some.ensures kept)
