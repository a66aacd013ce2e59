use Rattle.std.proofs.Common.{inr, refl, ℕ, List, Option}
use Rattle.std.specs.Prelude.{string_bytes}
use Rattle.clap.specs.Words.{Text}
use Rattle.sdv_program.specs.Requests.{EmitNames, emit_names_of}
use Rattle.sdv_emit.specs.Emitted.{EmitFails, Emits}
use Rattle.sdv_program.specs.Files.{Files}
use Rattle.sdv_program.specs.Outcomes.{OverText}
use Rattle.sdv_program.proofs.OutcomeLaws.{failed, no_text}
use Rattle.sdv_commands.proofs.EmitLaws.{table_ends, table_printed, unemitted, unwritten}
use Rattle.sdv_commands.proofs.emit.emit_apart.Goals as goal

pub returns-in_err-script : goal.returns-in_err-script
returns-in_err-script g c =
    let files : Files = g.S.Store.known c.args.files.now in
    let names : EmitNames = emit_names_of c.args.words in
    no_text files c.args.words.script (λ (script : Text). OverText files names.certificate (table_ends files names script))
    (g.O.Write.contents c.args.out.now)
    c.in_err-script.field-0.0 c.in_err-script.ensures.refused c.in_err-script.ensures.no_text c.from_residual.result c.from_residual.ensures.1

pub returns-in_err-certificate : goal.returns-in_err-certificate
returns-in_err-certificate g c =
    inr (
      string_bytes c.in_ok-script.script,
      c.in_ok-script.ensures.given,
      no_text (g.S.Store.known c.args.files.now) c.args.words.certificate
          (table_ends (g.S.Store.known c.args.files.now) (emit_names_of c.args.words) (string_bytes c.in_ok-script.script))
          (g.O.Write.contents c.args.out.now)
          c.in_err-certificate.field-0.0 c.in_err-certificate.ensures.refused c.in_err-certificate.ensures.no_text
          c.from_residual-in_err-certificate.result c.from_residual-in_err-certificate.ensures.1,
    )

pub returns-in_err-emitted : goal.returns-in_err-emitted
returns-in_err-emitted g c =
    let files : Files = g.S.Store.known c.args.files.now in
    let names : EmitNames = emit_names_of c.args.words in
    let script : Text = string_bytes c.in_ok-script.script in
    let certificate : Text = string_bytes c.in_ok-certificate.certificate in
    let known : Option (List ℕ) = g.O.Write.contents c.args.out.now in
    let fails : EmitFails script certificate names.name c.in_err-emitted.field-0.0 =
    rw (c.as_str.ensures.value, c.as_str-2.ensures.value) at c.in_err-emitted.ensures.fails in
    inr (
      script,
      c.in_ok-script.ensures.given,
      inr (
        certificate,
        c.in_ok-certificate.ensures.given,
        failed (λ outcome. table_ends files names script certificate outcome known known) _ c.from_residual-in_err-emitted.result
            c.from_residual-in_err-emitted.ensures.1 (unemitted files names script certificate known c.in_err-emitted.field-0.0 fails),
      ),
    )

pub returns-in_err-leave : goal.returns-in_err-leave
returns-in_err-leave g c =
    let files : Files = g.S.Store.known c.args.files.now in
    let names : EmitNames = emit_names_of c.args.words in
    let script : Text = string_bytes c.in_ok-script.script in
    let certificate : Text = string_bytes c.in_ok-certificate.certificate in
    let known : Option (List ℕ) = g.O.Write.contents c.args.out.now in
    let emits : Emits script certificate names.script names.name c.in_ok-emitted.emitted =
    rw (c.as_str.ensures.value, c.as_str-2.ensures.value) at c.in_ok-emitted.ensures.emitted in
    inr (
      script,
      c.in_ok-script.ensures.given,
      inr (
        certificate,
        c.in_ok-certificate.ensures.given,
        failed (λ outcome. table_ends files names script certificate outcome known known) _ c.from_residual-in_err-leave.result
            c.from_residual-in_err-leave.ensures.1
            (unwritten files names script certificate c.in_ok-emitted.emitted emits c.args.words.binary refl c.in_err-leave.field-0.0
            (rw c.as_slice.ensures.value at c.in_err-leave.ensures.lost) known),
      ),
    )

pub returns : goal.returns
returns g c =
    let files : Files = g.S.Store.known c.args.files.now in
    let names : EmitNames = emit_names_of c.args.words in
    let script : Text = string_bytes c.in_ok-script.script in
    let certificate : Text = string_bytes c.in_ok-certificate.certificate in
    let emits : Emits script certificate names.script names.name c.in_ok-emitted.emitted =
    rw (c.as_str.ensures.value, c.as_str-2.ensures.value) at c.in_ok-emitted.ensures.emitted in
    inr (
      script,
      c.in_ok-script.ensures.given,
      inr (
        certificate,
        c.in_ok-certificate.ensures.given,
        table_printed files names script certificate c.in_ok-emitted.emitted emits
            (rw c.as_slice.ensures.value at c.in_ok-leave.ensures.left) _ _ _ (rw c.as_slice-2.ensures.value at c.print_text.ensures),
      ),
    )
