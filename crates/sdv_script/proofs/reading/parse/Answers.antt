use Rattle.std.proofs.Common.{◌≡◌, ◌∙◌, ap, length}
use Rattle.sdv_script.specs.Lines.{statement_lines}
use Rattle.sdv_script.specs.Place.{names_of, parsed_of}
use Rattle.sdv_graph.specs.Tree.{statements_of}
use Rattle.sdv_script.proofs.GraphOf.{can_run, suits_kind}
use Rattle.sdv_script.proofs.HeadsFound.{lines_found, each_has_line}
use Rattle.sdv_script.proofs.ScriptLaws.{is_script, no_script}
use Rattle.sdv_script.proofs.reading.parse.Goals as goal

pub invariant_of-result : goal.invariant_of-result
invariant_of-result c =
    let names = names_of c.in-Ok.names in
    let body = statements_of c.in-Ok.body in
    let is = is_script c.args.text.now names body c.if-text-gt-MAX_BYTES.false c.in-Ok.ensures.read in
    let same : c.in-Ok.lines.items ≡ statement_lines (parsed_of c.args.text.now c.in-Ok.names c.in-Ok.body) = c.in-Ok.ensures.lines ∙ lines_found _ is in
    record {
      can_run = can_run names body is.fits;
      suits = suits_kind names body is.fits;
      located = ap length same ∙ each_has_line _ is;
      lines_same = same;
      is_script = ∣ is ∣₁;
    }

pub returns-in-Ok-clause-script : goal.returns-in-Ok-clause-script
returns-in-Ok-clause-script c =
    is_script c.args.text.now (names_of c.in-Ok.names) (statements_of c.in-Ok.body) c.if-text-gt-MAX_BYTES.false c.in-Ok.ensures.read

pub returns-in-Err-Fault-clause-only : goal.returns-in-Err-Fault-clause-only
returns-in-Err-Fault-clause-only c kind s same is =
    no_script c.args.text.now (rw c.in-Err-Fault.field-0-is at c.in-Err-Fault.ensures.read) s same is
