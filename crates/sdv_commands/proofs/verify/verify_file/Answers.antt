use Rattle.std.proofs.Common.{◌≡◌, rules}
use Rattle.std.specs.Prelude.{string_bytes}
use Rattle.clap.specs.Walk.{texts}
use Rattle.sdv_commands.proofs.VerifyLaws.{told_of}
use Rattle.sdv_commands.proofs.verify.verify_file.Goals as goal

pub returns-clause-told : goal.returns-clause-told
returns-clause-told g c =
    let text : c.as_str.result.now ≡ string_bytes c.in-Ok.text = search rules in
    told_of (g.S.Store.known c.args.files.now) (texts c.args.words.now.allowed.items) c.args.file.now (string_bytes c.in-Ok.text)
    c.in_ok-told.told.is_clear c.in-Ok.ensures.given (rw (text, c.deref-2.ensures.value) at c.in_ok-told.ensures.told) c.fault_if.result
    c.fault_if.ensures
