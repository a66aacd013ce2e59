use Rattle.std.proofs.Common.{◌≡◌, ◌∙◌, ap, length}
use Rattle.sdv_driver.specs.Driver.{IsDriver}
use Rattle.sdv_driver.specs.Lines.{driver_lines}
use Rattle.sdv_driver.specs.Views.{parsed_of}
use Rattle.sdv_driver.proofs.LinesFound.{lines_found, each_has_line}
use Rattle.sdv_driver.proofs.reading.parse_driver.Goals as goal

pub invariant_of-result : goal.invariant_of-result
invariant_of-result c =
    let is : IsDriver (parsed_of c.args.text.now c.in-Ok.names c.in-Ok.entries.items)
    = record { small = c.if-text-gt-MAX_BYTES.false; read = c.in-Ok.ensures.read } in
    let same : c.in-Ok.lines.items ≡ driver_lines (parsed_of c.args.text.now c.in-Ok.names c.in-Ok.entries.items)
    = c.in-Ok.ensures.lines ∙ lines_found _ is in
    record {
      lines_same = same;
      located = ap length same ∙ each_has_line _ is;
      is_driver = ∣ is ∣₁;
    }
