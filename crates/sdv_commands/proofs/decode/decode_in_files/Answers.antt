use Rattle.std.proofs.Common.{inr}
use Rattle.std.specs.Prelude.{string_bytes}
use Rattle.clap.specs.Words.{Text}
use Rattle.sdv_program.specs.Files.{Files}
use Rattle.sdv_program.specs.Requests.{decode_names_of}
use Rattle.sdv_program.specs.Outcomes.{OverText}
use Rattle.sdv_program.proofs.OutcomeLaws.{no_text}
use Rattle.sdv_commands.specs.Decode.{DecodesTrace}
use Rattle.sdv_commands.proofs.decode.decode_in_files.Goals as goal

pub returns-in_err-script : goal.returns-in_err-script
returns-in_err-script g c =
    let files : Files = g.S.Store.known c.args.files.now in
    let names = decode_names_of c.args.words in
    no_text files c.args.words.script
    (λ (script : Text). OverText files names.trace (λ (trace : Text). DecodesTrace files c.args.kind names script trace))
    (g.O.Write.contents c.args.out.now)
    c.in_err-script.field-0.0 c.in_err-script.ensures.refused c.in_err-script.ensures.no_text c.from_residual.result c.from_residual.ensures.1

pub returns-in_err-trace : goal.returns-in_err-trace
returns-in_err-trace g c =
    let files : Files = g.S.Store.known c.args.files.now in
    let names = decode_names_of c.args.words in
    inr (
      string_bytes c.in_ok-script.script,
      c.in_ok-script.ensures.given,
      no_text files c.args.words.trace
          (λ (trace : Text). DecodesTrace files c.args.kind names (string_bytes c.in_ok-script.script) trace) (g.O.Write.contents c.args.out.now)
          c.in_err-trace.field-0.0 c.in_err-trace.ensures.refused c.in_err-trace.ensures.no_text
          c.from_residual-in_err-trace.result c.from_residual-in_err-trace.ensures.1,
    )

pub returns : goal.returns
returns g c =
    inr (
      string_bytes c.in_ok-script.script,
      c.in_ok-script.ensures.given,
      inr (
        string_bytes c.in_ok-trace.trace,
        c.in_ok-trace.ensures.given,
        rw (c.as_str.ensures.value, c.as_str-2.ensures.value) at c.decode_trace.ensures,
      ),
    )
