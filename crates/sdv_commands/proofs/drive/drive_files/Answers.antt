use Rattle.std.proofs.Common.{◌≡◌, inl, inr, refl, rules, None}
use Rattle.sdv_program.specs.Requests.{drive_names_of}
use Rattle.sdv_commands.proofs.DriveLaws.{drives_apart}
use Rattle.sdv_commands.proofs.drive.drive_files.Goals as goal

pub returns-in-Some : goal.returns-in-Some
returns-in-Some g c = inl (c.in-Some.ensures.clashes, refl)

pub returns : goal.returns
returns g c =
    let none : c.clash.result ≡ None = search rules in
    inr (
      c.clash.ensures.apart none,
      drives_apart (g.S.Store.known c.args.files.now) (drive_names_of c.args.names) _ _ c.drive_apart.result
          c.drive_apart.ensures.done c.drive_apart.ensures.fails,
    )
