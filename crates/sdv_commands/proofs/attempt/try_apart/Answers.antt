use Rattle.std.proofs.Common.{◌≡◌, sym, ap, subst, rules, List, ℕ, Option, None, option_map, true}
use Rattle.sdv_program.specs.Requests.{try_names_of}
use Rattle.sdv_program.specs.Files.{Files}
use Rattle.sdv_commands.specs.Run.{Receives}
use Rattle.sdv_commands.specs.RunImages.{image_given}
use Rattle.sdv_commands.proofs.RunLaws.{none_of, opened_of, unopened}
use Rattle.sdv_program.proofs.StartLaws.{keeps_same}
use Rattle.sdv_commands.proofs.TryLaws.{ended, finish_fails, kept_fails, made_fails, memory_ends, unread_ends}
use Rattle.sdv_commands.proofs.attempt.try_apart.Goals as goal

pub returns-in_err-given : goal.returns-in_err-given
returns-in_err-given g c =
    unread_ends (g.S.Store.known c.args.files.now) (try_names_of c.args.names) _ _ c.in_err-given.field-0.0 c.in_err-given.ensures.refused (keeps_same _)
    c.from_residual.result c.from_residual.ensures.1

pub returns-in_err-put_notes : goal.returns-in_err-put_notes
returns-in_err-put_notes g c =
    memory_ends (g.S.Store.known c.args.files.now) (try_names_of c.args.names) _ _
    c.from_residual-in_err-put_notes.result c.from_residual-in_err-put_notes.ensures.1 (keeps_same _)

pub returns-in_err-end-in-None : goal.returns-in_err-end-in-None
returns-in_err-end-in-None g c =
    kept_fails (g.S.Store.known c.args.files.now) (try_names_of c.args.names) _ _ c.in_ok-given.given
    (image_given g.S.Image.BlockFile.byte_count g.S.Image.BlockFile.blocks c.in_ok-given.image)
    c.in_ok-given.ensures.given c.in_err-end-in-None.field-0.0 c.in_err-end-in-None.ensures.fails
    c.from_residual-in_err-end-in-None.result c.from_residual-in_err-end-in-None.ensures.1

-- without a file for the output
none_taken : (files : Files) (output : Option (List ℕ)) (bytes : List ℕ) → output ≡ None → Receives files output bytes
none_taken files output bytes is = rw is tt

pub returns-in-None : goal.returns-in-None
returns-in-None g c =
    let files : Files = g.S.Store.known c.args.files.now in
    let names = try_names_of c.args.names in
    let image = image_given g.S.Image.BlockFile.byte_count g.S.Image.BlockFile.blocks c.in_ok-given.image in
    let output : names.output ≡ None = ap (option_map (λ file. file.now)) c.in-None.is in
    ended files names _ _ c.in_ok-given.given image c.in_ok-given.ensures.given _ _
    (λ bytes appends. none_taken files _ bytes output) c.in_ok-end-in-None.end _ (rw c.deref-in-None.ensures.value at c.end_of.ensures) c.in_ok-end-in-None.ensures.kept

pub returns-in_err-sink-in-Some : goal.returns-in_err-sink-in-Some
returns-in_err-sink-in-Some g c =
    made_fails (g.S.Store.known c.args.files.now) (try_names_of c.args.names) _ _ c.in_ok-given.given
    (image_given g.S.Image.BlockFile.byte_count g.S.Image.BlockFile.blocks c.in_ok-given.image)
    c.in_ok-given.ensures.given c.in-Some.file (ap (option_map (λ file. file.now)) c.in-Some.is)
    (c.create.ensures.uncreated (none_of c.create.result _ c.in_err-sink-in-Some.field-0.0 c.in_err-sink-in-Some.ensures.value)) (keeps_same _)
    c.in_err-sink-in-Some.field-0.0 (unopened c.create.result _ c.in_err-sink-in-Some.field-0.0 c.in_err-sink-in-Some.ensures.value)
    c.from_residual-in_err-sink-in-Some.result c.from_residual-in_err-sink-in-Some.ensures.1

pub returns-in_err-end-in-Some : goal.returns-in_err-end-in-Some
returns-in_err-end-in-Some g c =
    kept_fails (g.S.Store.known c.args.files.now) (try_names_of c.args.names) _ _ c.in_ok-given.given
    (image_given g.S.Image.BlockFile.byte_count g.S.Image.BlockFile.blocks c.in_ok-given.image)
    c.in_ok-given.ensures.given c.in_err-end-in-Some.field-0.0 c.in_err-end-in-Some.ensures.fails
    c.from_residual-in_err-end-in-Some.result c.from_residual-in_err-end-in-Some.ensures.1

pub returns-then-not-finish : goal.returns-then-not-finish
returns-then-not-finish g c =
    finish_fails (g.S.Store.known c.args.files.now) (try_names_of c.args.names) _ _ c.in_ok-given.given
    (image_given g.S.Image.BlockFile.byte_count g.S.Image.BlockFile.blocks c.in_ok-given.image)
    c.in_ok-given.ensures.given c.in-Some.file (sym (ap (option_map (λ file. file.now)) c.in-Some.is))
    (c.finish.ensures.unfinished (search rules)) c.in_ok-end-in-Some.end
    _ _ c.in_ok-end-in-Some.ensures.kept

pub returns : goal.returns
returns g c =
    let files : Files = g.S.Store.known c.args.files.now in
    let names = try_names_of c.args.names in
    let image = image_given g.S.Image.BlockFile.byte_count g.S.Image.BlockFile.blocks c.in_ok-given.image in
    let whole : c.finish.result ≡ true = search rules in
    let made = opened_of c.create.result _ c.in_ok-sink-in-Some.sink (g.S.Store.opened c.args.files.now c.in-Some.file.now) c.in_ok-sink-in-Some.ensures.value
    c.create.ensures.made in
    let output = sym (ap (option_map (λ file. file.now)) c.in-Some.is) in
    ended files names _ _ c.in_ok-given.given image c.in_ok-given.ensures.given _ _
    (λ bytes appends. subst (λ output. Receives files output bytes) output (c.finish.ensures.received whole c.in_ok-sink-in-Some.sink bytes made appends))
    c.in_ok-end-in-Some.end _ (rw c.deref-in-Some.ensures.value at c.end_of-in-Some.ensures) c.in_ok-end-in-Some.ensures.kept
