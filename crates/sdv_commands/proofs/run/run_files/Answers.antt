use Rattle.std.proofs.Common.{◌≡◌, inl, inr, rules, None}
use Rattle.sdv_program.proofs.StartLaws.{keeps_same}
use Rattle.sdv_commands.proofs.run.run_files.Goals as goal

pub returns-in-Some : goal.returns-in-Some
returns-in-Some g c = (_, c.image_file.ensures, inl (c.in-Some.ensures.clashes, keeps_same _))

pub returns : goal.returns
returns g c =
    let none : c.clash.result ≡ None = search rules in
    (_, c.image_file.ensures, inr (c.clash.ensures.apart none, c.run_apart.ensures))
