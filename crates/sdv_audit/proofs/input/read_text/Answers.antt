use Rattle.std.proofs.Common.{◌≡◌, arith, length, subst, Ok}
use Rattle.sdv_audit.specs.Input.{ReadsByte}
use Rattle.sdv_audit.proofs.InputLaws.{too_long}
use Rattle.sdv_audit.proofs.input.read_text.Goals as goal

pub returns-in-Some-2 : goal.returns-in-Some-2
returns-in-Some-2 g c =
    let kept = c.loop.invariant in
    let full : length c.loop.text.items ≡ 1024 = omega arith in
    too_long (g.R.Read.remaining c.args.reader.now) (g.R.Read.remaining c.loop.reader) (g.R.Read.remaining c.read_byte-2.new.reader) c.loop.text.items
    c.in-Some-2.field-0 kept.0 full c.in-Some-2.field-0-test.1 kept.1
    (subst (λ v. ReadsByte (g.R.Read.remaining c.loop.reader) (g.R.Read.remaining c.read_byte-2.new.reader) (Ok v)) c.in-Some-2.is c.in_ok-read_byte-2.ensures)
