use Rattle.std.proofs.Common.{◌≡◌, sym, ap, refl, subst, rules, List, ℕ, Option, None, option_map, true}
use Rattle.clap.specs.Words.{Text}
use Rattle.sdv_program.specs.Files.{Files}
use Rattle.sdv_commands.specs.Run.{Receives}
use Rattle.sdv_commands.proofs.RunLaws.{none_of, opened_of, unopened}
use Rattle.sdv_program.specs.Requests.{drive_names_of}
use Rattle.sdv_commands.proofs.DriveLaws.{answered, answered_fails, comes_out, finish_fails, unmade_fails, untraced_fails}
use Rattle.sdv_commands.proofs.drive.drive_apart.Goals as goal

pub returns-in_err-outcome-in-None-clause-fails : goal.returns-in_err-outcome-in-None-clause-fails
returns-in_err-outcome-in-None-clause-fails g c =
    untraced_fails (g.S.Store.known c.args.files.now) (drive_names_of c.args.names) _ _ c.in_ok-given.given c.in_ok-given.ensures.given
    c.in_err-outcome-in-None.field-0.0 c.from_residual-in_err-outcome-in-None.result
    c.in_err-outcome-in-None.ensures.fails c.from_residual-in_err-outcome-in-None.ensures.1

-- without a file for the output
none_taken : (files : Files) (output : Option Text) (bytes : List ℕ) → output ≡ None → Receives files output bytes
none_taken files output bytes is = rw is tt

pub returns-in-None-clause-done : goal.returns-in-None-clause-done
returns-in-None-clause-done g c =
    let files : Files = g.S.Store.known c.args.files.now in
    let names = drive_names_of c.args.names in
    let output = ap (option_map (λ file. file.now)) c.in-None.is in
    answered files names _ _ c.in_ok-outcome-in-None.outcome c.end_of.result c.end_of.ensures
    (comes_out files names _ _ c.in_ok-given.given c.in_ok-given.ensures.given c.in_ok-outcome-in-None.outcome _ _
    c.in_ok-outcome-in-None.ensures.traced (λ bytes appends. none_taken files names.output bytes output))

pub returns-in-None-clause-fails : goal.returns-in-None-clause-fails
returns-in-None-clause-fails g c =
    let files : Files = g.S.Store.known c.args.files.now in
    let names = drive_names_of c.args.names in
    let output = ap (option_map (λ file. file.now)) c.in-None.is in
    answered_fails files names _ _ c.in_ok-outcome-in-None.outcome c.end_of.result c.end_of.ensures
    (comes_out files names _ _ c.in_ok-given.given c.in_ok-given.ensures.given c.in_ok-outcome-in-None.outcome _ _
    c.in_ok-outcome-in-None.ensures.traced (λ bytes appends. none_taken files names.output bytes output))

pub returns-in_err-sink-in-Some-clause-fails : goal.returns-in_err-sink-in-Some-clause-fails
returns-in_err-sink-in-Some-clause-fails g c =
    unmade_fails (g.S.Store.known c.args.files.now) (drive_names_of c.args.names) _ _ c.in_ok-given.given c.in_ok-given.ensures.given
    c.in-Some.file (ap (option_map (λ file. file.now)) c.in-Some.is)
    (c.create.ensures.uncreated (none_of c.create.result _ c.in_err-sink-in-Some.field-0.0 c.in_err-sink-in-Some.ensures.value)) refl
    c.in_err-sink-in-Some.field-0.0 (unopened c.create.result _ c.in_err-sink-in-Some.field-0.0 c.in_err-sink-in-Some.ensures.value)
    c.from_residual-in_err-sink-in-Some.result c.from_residual-in_err-sink-in-Some.ensures.1

pub returns-in_err-outcome-in-Some-clause-fails : goal.returns-in_err-outcome-in-Some-clause-fails
returns-in_err-outcome-in-Some-clause-fails g c =
    untraced_fails (g.S.Store.known c.args.files.now) (drive_names_of c.args.names) _ _ c.in_ok-given.given c.in_ok-given.ensures.given
    c.in_err-outcome-in-Some.field-0.0 c.from_residual-in_err-outcome-in-Some.result
    c.in_err-outcome-in-Some.ensures.fails c.from_residual-in_err-outcome-in-Some.ensures.1

pub returns-then-not-finish-clause-fails : goal.returns-then-not-finish-clause-fails
returns-then-not-finish-clause-fails g c =
    finish_fails (g.S.Store.known c.args.files.now) (drive_names_of c.args.names) _ _ c.in_ok-given.given c.in_ok-given.ensures.given
    c.in-Some.file (sym (ap (option_map (λ file. file.now)) c.in-Some.is)) (c.finish.ensures.unfinished (search rules))
    c.in_ok-outcome-in-Some.outcome _ _ c.in_ok-outcome-in-Some.ensures.traced

pub returns-clause-done : goal.returns-clause-done
returns-clause-done g c =
    let files : Files = g.S.Store.known c.args.files.now in
    let names = drive_names_of c.args.names in
    let whole : c.finish.result ≡ true = search rules in
    let made = opened_of c.create.result _ c.in_ok-sink-in-Some.sink (g.S.Store.opened c.args.files.now c.in-Some.file.now) c.in_ok-sink-in-Some.ensures.value
    c.create.ensures.made in
    answered files names _ _ c.in_ok-outcome-in-Some.outcome c.end_of-in-Some.result c.end_of-in-Some.ensures
    (comes_out files names _ _ c.in_ok-given.given c.in_ok-given.ensures.given c.in_ok-outcome-in-Some.outcome _ _
    c.in_ok-outcome-in-Some.ensures.traced (λ bytes appends. subst (λ file. Receives files file bytes) (sym (ap (option_map (λ file. file.now)) c.in-Some.is))
    (c.finish.ensures.received whole c.in_ok-sink-in-Some.sink bytes made appends)))

pub returns-clause-fails : goal.returns-clause-fails
returns-clause-fails g c =
    let files : Files = g.S.Store.known c.args.files.now in
    let names = drive_names_of c.args.names in
    let whole : c.finish.result ≡ true = search rules in
    let made = opened_of c.create.result _ c.in_ok-sink-in-Some.sink (g.S.Store.opened c.args.files.now c.in-Some.file.now) c.in_ok-sink-in-Some.ensures.value
    c.create.ensures.made in
    answered_fails files names _ _ c.in_ok-outcome-in-Some.outcome c.end_of-in-Some.result c.end_of-in-Some.ensures
    (comes_out files names _ _ c.in_ok-given.given c.in_ok-given.ensures.given c.in_ok-outcome-in-Some.outcome _ _
    c.in_ok-outcome-in-Some.ensures.traced (λ bytes appends. subst (λ file. Receives files file bytes) (sym (ap (option_map (λ file. file.now)) c.in-Some.is))
    (c.finish.ensures.received whole c.in_ok-sink-in-Some.sink bytes made appends)))
