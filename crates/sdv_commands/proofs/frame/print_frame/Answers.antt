use Rattle.std.proofs.Common.{◌≡◌, rules}
use Rattle.sdv_commands.specs.Frame.{IsFrameOf, IsFrameText, WriteNone, Writes}
use Rattle.sdv_program.specs.Outcomes.{outcome_of}
use Rattle.sdv_program.proofs.OutcomeLaws.{prints}
use Rattle.sdv_commands.proofs.frame.print_frame.Goals as goal

pub returns : goal.returns
returns g c =
    let index = c.args.index.now in
    let argument = c.args.argument.now in
    let command = c.in_ok-command.command in
    let line : c.as_slice.result.now ≡ c.frame_line.result.items = search rules in
    let writes : Writes index argument command = search rules in
    let frame : IsFrameOf command c.as_slice.result.now = rw line c.frame_line.ensures in
    prints (g.O.Write.contents c.args.out.now) (g.O.Write.contents c.print_text.new.out) (IsFrameText index argument) (WriteNone index argument)
    c.as_slice.result.now (outcome_of c.print_text.result) (command, writes, frame) c.print_text.ensures
