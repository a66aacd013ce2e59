use Rattle.std.proofs.Common.{◌≡◌, inl, inr, refl, rules, Some, None}
use Rattle.sdv_program.proofs.StartLaws.{keeps_same}
use Rattle.sdv_commands.specs.Batch.{kind_named}
use Rattle.sdv_commands.proofs.decode.decode_files.Goals as goal

pub returns-in_default : goal.returns-in_default
returns-in_default g c =
    let none : kind_named c.args.words.kind.now ≡ None = search rules in
    inl (none, refl, keeps_same (g.O.Write.contents c.args.out.now))

pub returns : goal.returns
returns g c =
    let named : kind_named c.args.words.kind.now ≡ Some c.in-Some.kind = search rules in
    inr (c.in-Some.kind, named, c.decode_in_files.ensures)
