use Rattle.std.proofs.Common.{◌≡◌, IfErr, rules}
use Rattle.sdv_program.specs.declared.fault.Fault.TheVariants.{Output}
use Rattle.sdv_program.proofs.OutcomeLaws.{printed}
use Rattle.sdv_program.proofs.output.print_text.Goals as goal

pub returns : goal.returns
returns g c =
    let output : IfErr c.map_err.result (λ fault. fault ≡ Output) = search rules in
    printed (g.O.Write.contents c.args.out.now) (g.O.Write.contents c.write_text.new.out) c.args.text.now c.write_text.result c.map_err.result
    c.map_err.ensures.variant output c.write_text.ensures
